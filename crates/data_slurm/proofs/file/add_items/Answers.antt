use Rattle.data_slurm.proofs.EntriesSoFar.{all_done, next_too, none_yet, wrong_at}
use Rattle.data_slurm.proofs.file.add_items.Goals as goal

pub loop-item-init : goal.loop-item-init
loop-item-init c = none_yet c.args.kind c.args.list.now _

pub loop-item-preserved : goal.loop-item-preserved
loop-item-preserved c =
    next_too c.args.kind c.args.list.now c.loop-item.item-index c.item-item.result _ _ _
    c.in-Ok.entry c.loop-item-test.true c.item-item.is c.in-Ok.ensures
    c.in-Ok-push.ensures.items c.loop-item.invariant

pub returns : goal.returns
returns c =
    all_done c.args.kind c.args.list.now c.loop-item.item-index _ _ c.loop-item-test.false
    c.loop-item.invariant

pub returns-in-Err : goal.returns-in-Err
returns-in-Err c =
    wrong_at c.args.kind c.args.list.now c.loop-item.item-index c.item-item.result _ _ _
    c.loop-item-test.true c.item-item.is c.loop-item.invariant c.in-Err.ensures
