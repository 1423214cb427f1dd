pub mod SameExpr
pub mod SameExprLaw
pub mod SameItself
