use Rattle.std.proofs.Common.{◌≡◌, ℕ, Option, Some, None, inl, inr, take, refl, subst}
use Rattle.session_bytes.specs.ShownData.{ShowsAnswer}
use Rattle.session_client.specs.Holding.{ShowsFront}
use Rattle.session_client.specs.Makings.{Octets}
use Rattle.session_client.proofs.Makings.{caller_applies, caller_makes, caller_of, caller_settings}
use Rattle.session_client.proofs.laws.only_whole_answers_are_shown.Goals as goal

none_shown : (n : Option ℕ) (buffer : Octets) (o : Option Octets) → o ≡ None →
    ShowsFront o n buffer → n ≡ None
none_shown None buffer o is shows = refl
none_shown (Some n) buffer o is shows =
    absurd (subst (λ o. ShowsFront o (Some n) buffer) is shows)

some_shown : (n : Option ℕ) (buffer d : Octets) (o : Option Octets) → o ≡ Some d →
    ShowsFront o n buffer → (m : ℕ) × (n ≡ Some m) × (d ≡ take m buffer)
some_shown None buffer d o is shows =
    absurd (subst (λ o. ShowsFront o None buffer) is shows)
some_shown (Some n) buffer d o is shows =
    (n, refl, subst (λ o. ShowsFront o (Some n) buffer) is shows)

pub returns : goal.returns
returns c s k input buffer x =
    let caller = caller_of s x.made in
    let y = x.stands caller (caller_settings s x.made) (caller_makes s x.made x.were) in
    elim (c.only_whole_answers_in_bytes.ensures caller y.history k.router y.host y.run y.heard
    (caller_applies s x.made x.were)) [
      | inl none ↦ inl (none_shown k.shown buffer y.host.shown none y.shows)
      | inr (d, is, shows) ↦
          let z = some_shown k.shown buffer d y.host.shown is y.shows in
          inr (record {
            caller = caller;
            settings = caller_settings s x.made;
            history = y.history;
            host = y.host;
            run = y.run;
            heard = y.heard;
            size = z.0;
            shown = z.1;
            whole = subst (λ set. ShowsAnswer set y.history k.router.known (take z.0 buffer))
                (caller_settings s x.made)
                (subst (λ b. ShowsAnswer caller.settings y.history k.router.known b) z.2 shows);
          })
    ]
