mod Crossing
mod SyncedTogether
mod PlayersTogether
pub mod TurnsTaken
pub mod Taking
pub mod Worlds
pub mod TwoHalves
pub mod WorkerLists
pub mod Requested
pub mod NewWorkers
pub mod DeskCommits
pub mod WorldSteps
pub mod WorldWaiting
pub mod Beginning
pub mod OpenedEntries
pub mod WorldBegins
pub mod WorldGoes
pub mod PlayedTurns
pub mod EndedRounds
pub mod PlayedRounds
pub mod ClockSteps
pub mod InTime
pub mod TickedRounds
pub mod Without
pub mod PlayingOn
pub mod RoundFailures
pub mod ClosedRounds
pub mod PlayersBack
pub mod Reopened
pub mod PlansKept
pub mod KeptRounds
pub mod RoundStarts
pub mod Departing
pub mod ResumedRounds
pub mod AnsweredEntries
