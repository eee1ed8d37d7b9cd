use Rattle.std.proofs.Common.{rules, ◌∙◌, [], map, refl, ap}
use Rattle.std.proofs.lemmas.Result.{err_from_is_err_and}
use Rattle.std.specs.Map.Iter.{deref}
use Rattle.rtr_base.specs.declared.action.Action.TheVariants.{Announce}
use Rattle.rtr_payload.specs.Meanings.{key_of}
use Rattle.data_memory.proofs.Fronts.{sent_all, sent_more, sent_front, wrote_nothing}
use Rattle.data_memory.proofs.Fronts.{turn, turned_all, pushed, cut, none_for_version}
use Rattle.data_memory.proofs.Fronts.{all_for_version}
use Rattle.data_memory.proofs.writing.write_all_keys.Goals as goal

pub returns-then-version-lt1 : goal.returns-then-version-lt1
returns-then-version-lt1 g c =
    record {
      bytes = sent_all c.args.version Announce _ _ [] _ tt
          (none_for_version c.args.version 1 key_of (λ k. refl) c.if-version-lt1.true _)
          (wrote_nothing _);
      error = search rules;
    }

pub loop-key-preserved : goal.loop-key-preserved
loop-key-preserved g c = (
  turn deref c.loop-key.yielded c.in-Some.key _ _ _ c.loop-key.invariant.0 c.in-Some.ensures.steps,
  sent_more c.args.version Announce _ _ _ _ _ (key_of c.in-Some.key.now)
      (pushed deref key_of c.loop-key.yielded c.in-Some.key)
      c.loop-key.invariant.1 c.in_ok-write_key.ensures.bytes,
)

pub returns-in_err-write_key : goal.returns-in_err-write_key
returns-in_err-write_key g c =
    let p = err_from_is_err_and c.from_residual.result c.from_residual.ensures.1 in
    rw (p.1, p.2) (record {
      bytes = sent_front c.args.version Announce _ _ _ _ (map key_of c.next.new.self) _
          (key_of c.in-Some.key.now) _
          (all_for_version c.args.version 1 key_of (λ k. refl) c.if-version-lt1.false _
          ∙ cut deref key_of c.loop-key.yielded c.in-Some.key _ _ _ c.loop-key.invariant.0
          c.in-Some.ensures.steps)
          c.loop-key.invariant.1 c.in_err-write_key.ensures.bytes;
      error = search rules;
    })

pub returns : goal.returns
returns g c =
    record {
      bytes = sent_all c.args.version Announce _ _ _ _ tt
          (all_for_version c.args.version 1 key_of (λ k. refl) c.if-version-lt1.false _
          ∙ ap (map key_of) (turned_all deref c.loop-key.yielded _ _ c.loop-key.invariant.0
          c.in-None.ensures.steps.0)) c.loop-key.invariant.1;
      error = search rules;
    }
