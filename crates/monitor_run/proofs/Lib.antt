mod FilesJobs
mod RunLaws
mod GoodSources
mod Completing
mod Leaving
mod Limits
