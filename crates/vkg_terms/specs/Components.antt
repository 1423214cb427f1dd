-- The components of a reference, as the program holds them.
use Rattle.std.specs.Option.{option_copied}
use Rattle.vkg_terms.specs.declared.components.Components.{Components}
use Rattle.vkg_terms.specs.Resolve.{Parts}

-- the texts behind the references
abbrev pub seen : Components → Parts
seen c = record {
  scheme = option_copied c.scheme;
  authority = option_copied c.authority;
  path = c.path.now;
  query = option_copied c.query;
  fragment = option_copied c.fragment;
}
