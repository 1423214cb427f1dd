pub mod TableRows
pub mod KeptPairs
pub mod JoinInJoin
pub mod JoinInJoinLaw
pub mod MembersSeen
