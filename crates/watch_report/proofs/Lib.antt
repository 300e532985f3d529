mod Rendering
mod OwnSettings
mod ToldLaws
mod Sayings
mod Sizes
mod Spelled
mod MadeStream
mod ReplyLaws
mod MonitorReplies
pub mod StoodFor
mod RehearsedLines
mod Renumbering
mod LastMonitors
mod ClosedLines
mod HistoryLaws
mod Rehearsals
pub mod OneReport
mod InModels
