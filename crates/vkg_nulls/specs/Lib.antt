pub mod KnownColumns
pub mod KnownColumnsLaw
pub mod NullTests
pub mod NullExactly
pub mod TestsSize
pub mod NullTestsLaw
pub mod SimplifyNull
pub mod SimplifyNullLaw
