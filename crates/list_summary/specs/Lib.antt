pub mod Summaries
pub mod SummaryStatus
pub mod PrivateTallies
