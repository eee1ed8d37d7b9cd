mod AnswerLines
mod Rankings
mod SummarisedUnits
mod SummaryLines
mod SummaryPieces
mod Tallies
