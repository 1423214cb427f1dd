-- The rules in their order, and the normal form of a plan under them.
use Rattle.vkg_plan.specs.Kinds.{Tables}
use Rattle.vkg_plan.specs.Plan.{Plan}
use Rattle.vkg_rules.specs.Either.{either, either-falls, either-keeps}
use Rattle.vkg_rules.specs.Steps.{FallsAll, KeepsAll, Rule}
use Rattle.vkg_chains.specs.Ends.{IsEndOf, Settled, end_of}
use Rattle.vkg_antis.specs.AntiNothing.{anti_nothing}
use Rattle.vkg_antis.specs.AntiNothingLaw.{anti_nothing-falls, anti_nothing-keeps}
use Rattle.vkg_antis.specs.AntiRight.{anti_right}
use Rattle.vkg_antis.specs.AntiRightLaw.{anti_right-falls, anti_right-keeps}
use Rattle.vkg_conditions.specs.SimplifyCondition.{simplify_condition}
use Rattle.vkg_conditions.specs.SimplifyConditionLaw.{simplify_condition-falls, simplify_condition-keeps}
use Rattle.vkg_equalities.specs.TermEquality.{term_equality}
use Rattle.vkg_equalities.specs.TermEqualityLaw.{term_equality-falls, term_equality-keeps}
use Rattle.vkg_joins.specs.JoinInJoin.{join_in_join}
use Rattle.vkg_joins.specs.JoinInJoinLaw.{join_in_join-falls, join_in_join-keeps}
use Rattle.vkg_key_joins.specs.ParentJoin.{parent_join}
use Rattle.vkg_key_joins.specs.ParentJoinLaw.{parent_join-falls, parent_join-keeps}
use Rattle.vkg_key_joins.specs.SelfJoin.{self_join}
use Rattle.vkg_key_joins.specs.SelfJoinLaw.{self_join-falls, self_join-keeps}
use Rattle.vkg_key_lefts.specs.ParentLeft.{parent_left}
use Rattle.vkg_key_lefts.specs.ParentLeftLaw.{parent_left-falls, parent_left-keeps}
use Rattle.vkg_key_lefts.specs.ReferenceLeft.{reference_left}
use Rattle.vkg_key_lefts.specs.ReferenceLeftLaw.{reference_left-falls, reference_left-keeps}
use Rattle.vkg_key_lefts.specs.SelfLeft.{self_left}
use Rattle.vkg_key_lefts.specs.SelfLeftLaw.{self_left-falls, self_left-keeps}
use Rattle.vkg_key_lefts.specs.SelfLeftMember.{self_left_member}
use Rattle.vkg_key_lefts.specs.SelfLeftMemberLaw.{self_left_member-falls, self_left_member-keeps}
use Rattle.vkg_lifts.specs.LiftProjects.{lift_projects}
use Rattle.vkg_lifts.specs.LiftProjectsLaw.{lift_projects-falls, lift_projects-keeps}
use Rattle.vkg_moves.specs.LeftToJoin.{left_to_join}
use Rattle.vkg_moves.specs.LeftToJoinLaw.{left_to_join-falls, left_to_join-keeps}
use Rattle.vkg_moves.specs.MergeProjects.{merge_projects}
use Rattle.vkg_moves.specs.MergeProjectsLaw.{merge_projects-falls, merge_projects-keeps}
use Rattle.vkg_moves.specs.MergeSelects.{merge_selects}
use Rattle.vkg_moves.specs.MergeSelectsLaw.{merge_selects-falls, merge_selects-keeps}
use Rattle.vkg_nulls.specs.SimplifyNull.{simplify_null}
use Rattle.vkg_nulls.specs.SimplifyNullLaw.{simplify_null-falls, simplify_null-keeps}
use Rattle.vkg_shapes.specs.FalseCondition.{false_condition}
use Rattle.vkg_shapes.specs.FalseConditionLaw.{false_condition-falls, false_condition-keeps}
use Rattle.vkg_shapes.specs.FewMembers.{few_members}
use Rattle.vkg_shapes.specs.FewMembersLaw.{few_members-falls, few_members-keeps}
use Rattle.vkg_shapes.specs.FlatUnion.{flat_union}
use Rattle.vkg_shapes.specs.FlatUnionLaw.{flat_union-falls, flat_union-keeps}
use Rattle.vkg_shapes.specs.PropagateEmpty.{propagate_empty}
use Rattle.vkg_shapes.specs.PropagateEmptyLaw.{propagate_empty-falls, propagate_empty-keeps}
use Rattle.vkg_shapes.specs.SelectTrue.{select_true}
use Rattle.vkg_shapes.specs.SelectTrueLaw.{select_true-falls, select_true-keeps}
use Rattle.vkg_spreads.specs.DistributeUnion.{distribute_union}
use Rattle.vkg_spreads.specs.DistributeUnionLaw.{distribute_union-falls, distribute_union-keeps}
use Rattle.vkg_sure.specs.FirstKnown.{first_known}
use Rattle.vkg_sure.specs.FirstKnownLaw.{first_known-falls, first_known-keeps}
use Rattle.vkg_sure.specs.KnownMember.{known_member}
use Rattle.vkg_sure.specs.KnownMemberLaw.{known_member-falls, known_member-keeps}
use Rattle.vkg_sure.specs.SureNull.{sure_null}
use Rattle.vkg_sure.specs.SureNullLaw.{sure_null-falls, sure_null-keeps}
use Rattle.vkg_sure.specs.TermComparison.{term_comparison}
use Rattle.vkg_sure.specs.TermComparisonLaw.{term_comparison-falls, term_comparison-keeps}
use Rattle.vkg_unions.specs.DistinctDistinct.{distinct_distinct}
use Rattle.vkg_unions.specs.DistinctDistinctLaw.{distinct_distinct-falls, distinct_distinct-keeps}
use Rattle.vkg_unions.specs.EqualMembers.{equal_members}
use Rattle.vkg_unions.specs.EqualMembersLaw.{equal_members-falls, equal_members-keeps}
use Rattle.vkg_unique.specs.DistinctUnique.{distinct_unique}
use Rattle.vkg_unique.specs.DistinctUniqueLaw.{distinct_unique-falls, distinct_unique-keeps}
use Rattle.vkg_unique.specs.UnusedLeft.{unused_left}
use Rattle.vkg_unique.specs.UnusedLeftLaw.{unused_left-falls, unused_left-keeps}

-- selections and projections: two become one, and a projection comes above a node
unfoldable pub moves : Rule
moves = either merge_selects (either merge_projects lift_projects)

-- joins in joins, joins and unions of few members, and unions in unions
unfoldable pub flatten : Rule
flatten = either join_in_join (either few_members flat_union)

-- a distinct goes over rows that are no two equal, and under another
unfoldable pub distincts : Rule
distincts = either distinct_unique distinct_distinct

-- a table goes that a key ties to the same one, or that a foreign key refers to
unfoldable pub key_joins : Rule
key_joins = either self_join parent_join

-- left joins become joins, members of a union that are equal to others go, and so do left joins of which nothing is used
unfoldable pub left_joins : Rule
left_joins = either left_to_join (either equal_members unused_left)

-- what a plan can do without: distincts, tables in joins, left joins
unfoldable pub removals : Rule
removals = either distincts (either key_joins left_joins)

-- equalities of terms, what is decided in a condition, and tests for NULL
unfoldable pub conditions : Rule
conditions = either term_equality (either simplify_condition simplify_null)

-- an anti join goes that takes nothing away, and what stands on the right of one is said by its condition
unfoldable pub anti_joins : Rule
anti_joins = either anti_nothing anti_right

-- the rules that are taken to their end first, in the order in which they are asked: the first that applies to a plan is taken
unfoldable pub first_rules : Rule
first_rules =
    either select_true
    (either false_condition
    (either moves
    (either propagate_empty
    (either flatten
    (either distribute_union
    (either removals
    (either conditions
    anti_joins)))))))

-- rules of our own: on what is sure of an expression, and on left joins over keys
unfoldable pub own_rules : Rule
own_rules = either sure_null (either first_known (either known_member (either term_comparison (either self_left (either self_left_member (either parent_left reference_left))))))

-- all rules in the order in which they are asked, our own behind the others
unfoldable pub all_rules : Rule
all_rules = either first_rules own_rules

-- the plan after the rules' last step: each is taken at the first subplan in preorder that a rule changes, by the first such rule. Our own
-- rules are asked once none of the others applies anywhere
unfoldable pub normal_form : Tables → Plan → Plan
normal_form schema p = end_of all_rules schema (end_of first_rules schema p)

-- the first rules lead from p to their end, and all rules from there to q
pub record IsNormalFormOf (schema : Tables) (p q : Plan) : Type 0 where
  pub between : Plan
  pub of_first : IsEndOf first_rules schema p between
  pub of_all : IsEndOf all_rules schema between q

-- no rule applies at any subplan
abbrev pub IsNormal : Tables → Plan → Type 0
IsNormal schema = Settled (all_rules schema)

-- ---- each of the rules is lawful, so all of them are

moves-keep : KeepsAll moves
unfolding moves
moves-keep =
    either-keeps merge_selects _ merge_selects-keeps
    (either-keeps merge_projects lift_projects merge_projects-keeps lift_projects-keeps)

moves-fall : FallsAll moves
unfolding moves
moves-fall =
    either-falls merge_selects _ merge_selects-falls
    (either-falls merge_projects lift_projects merge_projects-falls lift_projects-falls)

flatten-keeps : KeepsAll flatten
unfolding flatten
flatten-keeps = either-keeps join_in_join _ join_in_join-keeps (either-keeps few_members flat_union few_members-keeps flat_union-keeps)

flatten-falls : FallsAll flatten
unfolding flatten
flatten-falls = either-falls join_in_join _ join_in_join-falls (either-falls few_members flat_union few_members-falls flat_union-falls)

distincts-keep : KeepsAll distincts
unfolding distincts
distincts-keep = either-keeps distinct_unique distinct_distinct distinct_unique-keeps distinct_distinct-keeps

distincts-fall : FallsAll distincts
unfolding distincts
distincts-fall = either-falls distinct_unique distinct_distinct distinct_unique-falls distinct_distinct-falls

key_joins-keep : KeepsAll key_joins
unfolding key_joins
key_joins-keep = either-keeps self_join parent_join self_join-keeps parent_join-keeps

key_joins-fall : FallsAll key_joins
unfolding key_joins
key_joins-fall = either-falls self_join parent_join self_join-falls parent_join-falls

left_joins-keep : KeepsAll left_joins
unfolding left_joins
left_joins-keep =
    either-keeps left_to_join _ left_to_join-keeps
    (either-keeps equal_members unused_left equal_members-keeps unused_left-keeps)

left_joins-fall : FallsAll left_joins
unfolding left_joins
left_joins-fall =
    either-falls left_to_join _ left_to_join-falls
    (either-falls equal_members unused_left equal_members-falls unused_left-falls)

removals-keep : KeepsAll removals
unfolding removals
removals-keep =
    either-keeps distincts _ distincts-keep
    (either-keeps key_joins left_joins key_joins-keep left_joins-keep)

removals-fall : FallsAll removals
unfolding removals
removals-fall =
    either-falls distincts _ distincts-fall
    (either-falls key_joins left_joins key_joins-fall left_joins-fall)

conditions-keep : KeepsAll conditions
unfolding conditions
conditions-keep =
    either-keeps term_equality _ term_equality-keeps
    (either-keeps simplify_condition simplify_null simplify_condition-keeps simplify_null-keeps)

conditions-fall : FallsAll conditions
unfolding conditions
conditions-fall =
    either-falls term_equality _ term_equality-falls
    (either-falls simplify_condition simplify_null simplify_condition-falls simplify_null-falls)

anti_joins-keep : KeepsAll anti_joins
unfolding anti_joins
anti_joins-keep = either-keeps anti_nothing anti_right anti_nothing-keeps anti_right-keeps

anti_joins-fall : FallsAll anti_joins
unfolding anti_joins
anti_joins-fall = either-falls anti_nothing anti_right anti_nothing-falls anti_right-falls

pub first_rules-keep : KeepsAll first_rules
unfolding first_rules
first_rules-keep =
    either-keeps select_true _ select_true-keeps
    (either-keeps false_condition _ false_condition-keeps
    (either-keeps moves _ moves-keep
    (either-keeps propagate_empty _ propagate_empty-keeps
    (either-keeps flatten _ flatten-keeps
    (either-keeps distribute_union _ distribute_union-keeps
    (either-keeps removals _ removals-keep
    (either-keeps conditions anti_joins conditions-keep anti_joins-keep)))))))

pub first_rules-fall : FallsAll first_rules
unfolding first_rules
first_rules-fall =
    either-falls select_true _ select_true-falls
    (either-falls false_condition _ false_condition-falls
    (either-falls moves _ moves-fall
    (either-falls propagate_empty _ propagate_empty-falls
    (either-falls flatten _ flatten-falls
    (either-falls distribute_union _ distribute_union-falls
    (either-falls removals _ removals-fall
    (either-falls conditions anti_joins conditions-fall anti_joins-fall)))))))

own_rules-keep : KeepsAll own_rules
unfolding own_rules
own_rules-keep =
    either-keeps sure_null _ sure_null-keeps
    (either-keeps first_known _ first_known-keeps
    (either-keeps known_member _ known_member-keeps
    (either-keeps term_comparison _ term_comparison-keeps
    (either-keeps self_left _ self_left-keeps
    (either-keeps self_left_member _ self_left_member-keeps
    (either-keeps parent_left reference_left parent_left-keeps reference_left-keeps))))))

own_rules-fall : FallsAll own_rules
unfolding own_rules
own_rules-fall =
    either-falls sure_null _ sure_null-falls
    (either-falls first_known _ first_known-falls
    (either-falls known_member _ known_member-falls
    (either-falls term_comparison _ term_comparison-falls
    (either-falls self_left _ self_left-falls
    (either-falls self_left_member _ self_left_member-falls
    (either-falls parent_left reference_left parent_left-falls reference_left-falls))))))

pub rules-keep : KeepsAll all_rules
unfolding all_rules
rules-keep = either-keeps first_rules own_rules first_rules-keep own_rules-keep

pub rules-fall : FallsAll all_rules
unfolding all_rules
rules-fall = either-falls first_rules own_rules first_rules-fall own_rules-fall
