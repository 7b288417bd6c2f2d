pub mod Named
pub mod Different
pub mod ChangeForm
pub mod ChangeLaws
pub mod ChangeLates
