use Rattle.std.proofs.Common.{rules, ℕ, List, Bor, ap, ◌∙◌, [], map, refl}
use Rattle.std.proofs.lemmas.Result.{err_from_is_err_and}
use Rattle.std.specs.Map.Iter.{deref_pair}
use Rattle.rtr_base.specs.declared.action.Action.TheVariants.{Announce}
use Rattle.data_memory.specs.Contents.{entry_of}
use Rattle.data_memory.proofs.Fronts.{sent_all, sent_more, sent_front, wrote_nothing}
use Rattle.data_memory.proofs.Fronts.{turn, turned_all, pushed, cut}
use Rattle.data_memory.proofs.Fronts.{none_for_version, all_for_version}
use Rattle.data_memory.proofs.writing.write_all_aspas.Goals as goal

pub returns-then-version-lt2 : goal.returns-then-version-lt2
returns-then-version-lt2 g c =
    record {
      bytes = sent_all c.args.version Announce _ _ [] _ tt
          (none_for_version c.args.version 2 entry_of (λ e. refl) c.if-version-lt2.true
          c.args.aspas.now.entries) (wrote_nothing _);
      error = search rules;
    }

pub loop-customer-preserved : goal.loop-customer-preserved
loop-customer-preserved g c =
    let ys = c.loop-customer.yielded in
    let x : Bor ℕ × Bor (List ℕ) = (c.in-Some.customer, c.in-Some.providers) in (
      turn deref_pair ys x _ _ _ c.loop-customer.invariant.0 c.in-Some.ensures.steps,
      sent_more c.args.version Announce _ _ _ _ _ (entry_of (deref_pair x))
          (pushed deref_pair entry_of ys x)
          c.loop-customer.invariant.1 c.in_ok-announce_aspa.ensures.bytes,
    )

pub returns-in_err-announce_aspa : goal.returns-in_err-announce_aspa
returns-in_err-announce_aspa g c =
    let ys = c.loop-customer.yielded in
    let x : Bor ℕ × Bor (List ℕ) = (c.in-Some.customer, c.in-Some.providers) in
    let p = err_from_is_err_and c.from_residual.result c.from_residual.ensures.1 in
    rw (p.1, p.2) (record {
      bytes = sent_front c.args.version Announce _ _ _ _ (map entry_of c.next.new.self) _
          (entry_of (deref_pair x)) _
          (all_for_version c.args.version 2 entry_of (λ e. refl) c.if-version-lt2.false
          c.args.aspas.now.entries
          ∙ cut deref_pair entry_of ys x _ _ _ c.loop-customer.invariant.0 c.in-Some.ensures.steps)
          c.loop-customer.invariant.1 c.in_err-announce_aspa.ensures.bytes;
      error = search rules;
    })

pub returns : goal.returns
returns g c =
    record {
      bytes = sent_all c.args.version Announce _ _ _ _ tt
          (all_for_version c.args.version 2 entry_of (λ e. refl) c.if-version-lt2.false
          c.args.aspas.now.entries
          ∙ ap (map entry_of) (turned_all deref_pair c.loop-customer.yielded _ _
          c.loop-customer.invariant.0 c.in-None.ensures.steps.0)) c.loop-customer.invariant.1;
      error = search rules;
    }
