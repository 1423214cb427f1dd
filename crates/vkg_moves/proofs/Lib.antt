pub mod Behind
pub mod FirstSelect
pub mod InPlace
pub mod FirstBelow
pub mod MemberParts
