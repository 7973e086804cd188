pub mod WorkedData
mod WorkedByLives
mod WorkedByRows
pub mod OneStep
pub mod OnlyFree
pub mod Seen
pub mod RoundsRise
pub mod TimesOf
pub mod Stretches
pub mod RoundsCounted
pub mod StepsLeft
pub mod CrewLaws
pub mod DueCommits
pub mod DueEnds
pub mod Running
pub mod Decided
pub mod LivesSteps
pub mod TimesRise
pub mod LivesTimes
pub mod LawsOfRuns
