use Rattle.std.proofs.Common.{refl}
use Rattle.session_server.specs.declared.connection.Next.TheVariants as nexts
use Rattle.session_server.proofs.Paces.{rests_in_time}
use Rattle.session_server.proofs.laws.no_limit_is_passed.Goals as goal

pub returns : goal.returns
returns c = record {
  waits = λ k n number d p e. rests_in_time k n number d p nexts.Wait refl e;
  sends = λ k n number d p e. rests_in_time k n number d p nexts.Send refl e;
  finishes = λ k n number d p e. rests_in_time k n number d p nexts.Finish refl e;
}
