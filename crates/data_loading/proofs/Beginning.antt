-- An answer that begins.
use Rattle.std.proofs.Common.{◌≡◌, ℕ, Bool, true, false, cond, List, [], Option, Some, None, refl}
use Rattle.std.proofs.Common.{sym, ap, ◌∙◌}
use Rattle.std.proofs.lemmas.Bool.{true≢false}
use Rattle.std.specs.Option.{option_map}
use Rattle.rtr_units.specs.AnyEnd.{end_meaning}
use Rattle.rtr_units.specs.End.{EndMeaning}
use Rattle.rtr_units.specs.declared.end.EndOfData.{EndOfData}
use Rattle.rtr_payload.specs.Payloads.{Payload}
use Rattle.data_recordings.specs.Recordings.{begins_anew, begun_if, is_wanted}
use Rattle.data_recordings.specs.Recordings.{last_serial}
use Rattle.data_loading.specs.PrivateLoading.{IsBased, IsBegun, so_much}
use Rattle.data_loading.specs.declared.held.Answer.{Answer}
use Rattle.data_loading.specs.declared.held.Held.{Held}

abbrev pub answer_anew : Option ℕ → Bool → Answer
answer_anew s w = record {
  count = 0;
  version = None;
  session = s;
  since = None;
  has_all = w;
  is_anew = true;
}

abbrev pub answer_onto : Option ℕ → Option ℕ → Option ℕ → Bool → Answer
answer_onto v s n w = record {
  count = 0;
  version = v;
  session = s;
  since = n;
  has_all = w;
  is_anew = false;
}

based_anew : (s : Option ℕ) (w : Bool) (end : Option EndOfData) → IsBased (answer_anew s w) end
based_anew s w None = tt
based_anew s w (Some x) = λ e. absurd (true≢false e)

based_onto : (v s n : Option ℕ) (w : Bool) (end : Option EndOfData) →
    v ≡ option_map (λ (e : EndOfData). (end_meaning e).version) end →
    IsBased (answer_onto v s n w) end
based_onto v s n w None is = tt
based_onto v s n w (Some x) is = λ e. is

map_twice : (end : Option EndOfData) →
    option_map (λ (e : EndOfData). (end_meaning e).version) end ≡
    option_map (λ (e : EndMeaning). e.version) (option_map end_meaning end)
map_twice None = refl
map_twice (Some x) = refl

module _ (h : Held) (d : List Payload) (s : Option ℕ) (w : Bool)
    (wanted : w ≡ is_wanted (so_much h d)) where
  pub begun_anew : begins_anew (so_much h d) s ≡ true → IsBegun (answer_anew s w) h d s
  begun_anew is = record {
    answer =
        ap (λ (x : Bool). record { payloads = []; session = s; since = None; has_all = x }) wanted
        ∙ ap (λ b. begun_if b (so_much h d) s) (sym is);
    version =
        ap (λ b. cond b None (option_map (λ (e : EndMeaning). e.version) (so_much h d).end))
        (sym is);
    count = refl;
    based = based_anew s w h.end;
  }

  pub begun_onto : (v n : Option ℕ) → begins_anew (so_much h d) s ≡ false →
      v ≡ option_map (λ (e : EndOfData). (end_meaning e).version) h.end →
      n ≡ last_serial (so_much h d) → IsBegun (answer_onto v s n w) h d s
  begun_onto v n is same serial = record {
    answer =
        (λ i. record { payloads = d; session = s; since = serial i; has_all = wanted i })
        ∙ ap (λ b. begun_if b (so_much h d) s) (sym is);
    version =
        same ∙ map_twice h.end
        ∙ ap (λ b. cond b None (option_map (λ (e : EndMeaning). e.version) (so_much h d).end))
        (sym is);
    count = refl;
    based = based_onto v s n w h.end same;
  }
