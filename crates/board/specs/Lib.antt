pub mod Views
pub mod Perform
pub mod Histories
pub mod Cuts
pub mod SingleCalls
pub mod ServiceStack
pub mod Draining
pub mod Examples
