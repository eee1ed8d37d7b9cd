use Rattle.std.proofs.Common.{rules, ◌≡◌, ℕ, List, Bor, ap, sym, ◌∙◌, [], map, not, true, refl}
use Rattle.std.proofs.lemmas.Result.{err_from_is_err_and}
use Rattle.std.specs.List.{filter}
use Rattle.std.specs.Map.Iter.{deref_pair}
use Rattle.rtr_base.specs.declared.action.Action.TheVariants.{Withdraw}
use Rattle.data_memory.specs.Contents.{entry_of}
use Rattle.data_memory.specs.Data.{name_of}
use Rattle.data_memory.specs.PrivateForms.{lacks_customer}
use Rattle.data_memory.proofs.Fronts.{sent_all, sent_more, sent_front, wrote_nothing, maps}
use Rattle.data_memory.proofs.Fronts.{turn, turned_all, picked_one, picked_cut, none_for_version}
use Rattle.data_memory.proofs.Fronts.{all_for_version}
use Rattle.data_memory.proofs.writing.write_withdrawn.Goals as goal

pub returns-then-version-lt2 : goal.returns-then-version-lt2
returns-then-version-lt2 g c =
    record {
      bytes = sent_all c.args.version Withdraw _ _ [] _ tt
          (ap (map name_of) (none_for_version c.args.version 2 entry_of (λ e. refl)
          c.if-version-lt2.true
          (filter (lacks_customer c.args.new.now) c.args.old.now.entries))) (wrote_nothing _);
      error = search rules;
    }

pub loop-customer-preserved : goal.loop-customer-preserved
loop-customer-preserved g c =
    let ys = c.loop-customer.yielded in
    let x : Bor ℕ × Bor (List ℕ) = (c.in-Some.customer, c.in-Some._providers) in
    let test = lacks_customer c.args.new.now in
    let lacks : test (deref_pair x) ≡ true =
    ap not (sym c.contains_key.ensures ∙ c.if-contains_key.false) in (
      turn deref_pair ys x _ _ _ c.loop-customer.invariant.0 c.in-Some.ensures.steps,
      sent_more c.args.version Withdraw _ _ _ _ _ (name_of (entry_of (deref_pair x)))
          (picked_one deref_pair (λ e. name_of (entry_of e)) test ys x lacks)
          c.loop-customer.invariant.1 c.in_ok-withdraw_aspa.ensures.bytes,
    )

pub returns-in_err-withdraw_aspa : goal.returns-in_err-withdraw_aspa
returns-in_err-withdraw_aspa g c =
    let ys = c.loop-customer.yielded in
    let x : Bor ℕ × Bor (List ℕ) = (c.in-Some.customer, c.in-Some._providers) in
    let test = lacks_customer c.args.new.now in
    let lacks : test (deref_pair x) ≡ true =
    ap not (sym c.contains_key.ensures ∙ c.if-contains_key.false) in
    let p = err_from_is_err_and c.from_residual.result c.from_residual.ensures.1 in
    rw (p.1, p.2) (record {
      bytes = sent_front c.args.version Withdraw _ _ _ _
          (map (λ e. name_of (entry_of e)) (filter test c.next.new.self)) _
          (name_of (entry_of (deref_pair x))) _
          (ap (map name_of) (all_for_version c.args.version 2 entry_of (λ e. refl)
          c.if-version-lt2.false
          (filter test c.args.old.now.entries))
          ∙ maps entry_of name_of (filter test c.args.old.now.entries)
          ∙ picked_cut deref_pair (λ e. name_of (entry_of e)) test ys x _ _ _
          c.loop-customer.invariant.0 c.in-Some.ensures.steps lacks)
          c.loop-customer.invariant.1 c.in_err-withdraw_aspa.ensures.bytes;
      error = search rules;
    })

pub returns : goal.returns
returns g c =
    record {
      bytes = sent_all c.args.version Withdraw _ _ _ _ tt
          (ap (map name_of) (all_for_version c.args.version 2 entry_of (λ e. refl)
          c.if-version-lt2.false
          (filter (lacks_customer c.args.new.now) c.args.old.now.entries))
          ∙ maps entry_of name_of (filter (lacks_customer c.args.new.now) c.args.old.now.entries)
          ∙ ap (λ l. map (λ e. name_of (entry_of e)) (filter (lacks_customer c.args.new.now) l))
          (turned_all deref_pair c.loop-customer.yielded _ _ c.loop-customer.invariant.0
          c.in-None.ensures.steps.0)) c.loop-customer.invariant.1;
      error = search rules;
    }
