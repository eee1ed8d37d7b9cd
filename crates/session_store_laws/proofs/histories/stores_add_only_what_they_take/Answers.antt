use Rattle.session_store_laws.proofs.Adding.{gives_up, saves, starts, takes, takes_unsaved}
use Rattle.session_store_laws.proofs.histories.stores_add_only_what_they_take.Goals as goal

pub returns-clause-takes : goal.returns-clause-takes
returns-clause-takes g = λ since most n m after f s f' s' served file z un may t is held l.
    takes since most n m after f s f' s' served file z un may t is held l

pub returns-clause-takes_unsaved : goal.returns-clause-takes_unsaved
returns-clause-takes_unsaved g = λ since most n session m after f s f' s' served z un t is l.
    takes_unsaved since most n session m after f s f' s' served z un t is l

pub returns-clause-saves : goal.returns-clause-saves
returns-clause-saves g = λ m after served f s b z ys is waits h l.
    saves m after served f s b z ys is waits h l

pub returns-clause-gives_up : goal.returns-clause-gives_up
returns-clause-gives_up g = λ m after served file f s is l.
    gives_up m after served file f s is l

pub returns-clause-starts : goal.returns-clause-starts
returns-clause-starts g = λ m size served f s z ys is h l.
    starts m size served f s z ys is h l
