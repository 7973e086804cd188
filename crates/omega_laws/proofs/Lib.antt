pub mod Places
pub mod RowEntries
pub mod LastCommits
pub mod Agreeing
pub mod RoundGrows
pub mod RoundsAdd
pub mod AnyOrder
pub mod CommitsRead
pub mod TurnOrder
pub mod FirstRounds
pub mod Suited
pub mod MachinesStay
pub mod OtherJobs
pub mod EachLeft
pub mod OneJob
pub mod RoundFronts
pub mod EntireGangs
pub mod WholeCommits
mod Examples
pub mod TimeOrder
pub mod TimedOn
pub mod TickingOn
pub mod ExamplesTime
mod ExamplesLate
pub mod OnlyTimes
mod ConstraintExamples
pub mod AnyCommand
