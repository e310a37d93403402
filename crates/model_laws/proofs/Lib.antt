pub mod Issues
pub mod LeafRuns
pub mod Attempts
pub mod Few
mod Leaves
pub mod Soon
pub mod Sizes
mod Sends
mod Requests
mod Paths
mod Parallels
pub mod Within
mod Even
pub mod Ended
mod Replies
mod Earned
mod GoodNodes
mod Completions
pub mod Weaves
mod Finishes
pub mod Early
pub mod Once
mod Took
mod Logs
mod Heard
mod Late
mod Taken
pub mod MomentsStay
pub mod Runs
