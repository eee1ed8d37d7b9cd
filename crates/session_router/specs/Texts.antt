-- What is said of the causes that end a connection, in a report too.
use Rattle.std.specs.Prelude.{ℕ, List, codes}
use Rattle.session_router.specs.declared.event.Cause.{Cause}
use Rattle.session_router.specs.declared.event.Cause.TheVariants as causes

abbrev pub cause_text : Cause → List ℕ
cause_text causes.Lost = codes "the cache closed the connection"
cause_text causes.Slow = codes "the cache is too slow"
cause_text causes.Faulty = codes "unit is refused"
cause_text causes.Reported = codes "the cache reports an error"
cause_text causes.OutOfPlace = codes "unit is not allowed here"
cause_text causes.NoSuchPayload = codes "version does not have such payloads"
cause_text causes.OtherVersion = codes "unit of another version than the session"
cause_text causes.HigherVersion = codes "answer of a higher version than the query"
cause_text causes.OtherSession = codes "unit of another session"
cause_text causes.OldSerial = codes "serial number before that of the query"
cause_text causes.OtherData = codes "other data at the serial number of the query"
cause_text causes.TooLong = codes "the answer is too long"
cause_text causes.NotApplied = codes "changes are refused"
cause_text causes.Expired = codes "the data have expired"
cause_text causes.Lower = codes "the cache may have a lower version"
cause_text causes.Higher = codes "the cache may have a higher version"
