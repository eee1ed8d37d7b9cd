use Rattle.session_store_laws.proofs.Answering.{all_written}
use Rattle.session_store_laws.proofs.answers.all_data_are_the_present.Goals as goal

pub returns : goal.returns
returns g had t limit input opening before after progress x h has is at opened n bytes =
    all_written had t limit input opening before after progress x h has is at opened n bytes
