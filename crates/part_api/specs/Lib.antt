pub mod Req
pub mod States
pub mod Ruled
pub mod Records
