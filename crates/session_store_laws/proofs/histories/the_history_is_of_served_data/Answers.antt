use Rattle.session_store_laws.proofs.Held.{keeps, serves}
use Rattle.session_store_laws.proofs.histories.the_history_is_of_served_data.Goals as goal

pub returns-clause-serves : goal.returns-clause-serves
returns-clause-serves g = λ served history x ys is h. serves served history x ys is h

pub returns-clause-keeps : goal.returns-clause-keeps
returns-clause-keeps g = λ served history x ys is h. keeps served history x ys is h
