-- What is said of the reasons that end a connection, in a report too.
use Rattle.std.specs.Prelude.{ℕ, List, codes}
use Rattle.session_cache.specs.declared.event.Reason.{Reason}
use Rattle.session_cache.specs.declared.event.Reason.TheVariants as reasons

abbrev pub reason_text : Reason → List ℕ
reason_text reasons.Lost = codes "the router closed the connection"
reason_text reasons.Slow = codes "the router is too slow"
reason_text reasons.Full = codes "too many connections"
reason_text reasons.Faulty = codes "unit is refused"
reason_text reasons.Reported = codes "the router reports an error"
reason_text reasons.NoQuery = codes "unit is not a query"
reason_text reasons.OtherVersion = codes "unit of another version than the session"
reason_text reasons.NoVersion = codes "version is not supported"
reason_text reasons.NewSession = codes "the data are of a new session"
reason_text reasons.Unknown = codes "no data of this session and serial number"
