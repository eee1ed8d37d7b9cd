-- Changes name by name.
use Rattle.std.proofs.Common.{◌≡◌, Bool, true, false, not, ◌&&◌, cond, List, [], ◌∷◌}
use Rattle.std.proofs.Common.{Result, Ok, Err, refl, sym, ap, ◌∙◌}
use Rattle.std.proofs.lemmas.Bool.{true≢false, false≢true}
use Rattle.std.specs.Cmp.{Equal-is, tied_back}
use Rattle.std.specs.List.{AllByRecursion}
use Rattle.std.specs.Ordering.{is_eq}
use Rattle.std.specs.declared.cmp.Ordering.TheVariants.{Equal}
use Rattle.rtr_base.specs.declared.action.Action.{Action}
use Rattle.rtr_base.specs.declared.action.Action.TheVariants.{Announce, Withdraw}
use Rattle.rtr_payload.specs.Payloads.{Payload}
use Rattle.data_memory.specs.declared.change_error.ChangeError.{ChangeError}
use Rattle.data_memory.specs.declared.change_error.ChangeError.TheVariants.{Duplicate, Unknown}
use Rattle.data_memory.specs.Changes.{after_all}
use Rattle.data_memory.specs.Data.{Change, IsData, after, name_cmp, takes_place}
use Rattle.data_memory.proofs.Changes.{after_data}
use Rattle.data_memory.proofs.Fewest.{after_all_data}
use Rattle.data_memory.proofs.Merge.{laws, refused_all}
use Rattle.data_memory.proofs.Names.{name_total, one_of_name}
use Rattle.data_slices.specs.Net.{AreDecided, AreLinked, Follow, Nets, is_open, last_of, may_follow}
use Rattle.data_slices.specs.Net.{net, of_name, settles, undecided}
use Rattle.data_slices.proofs.There.{Fine, fine, is_some, other_step, same_data, same_step, seen}
use Rattle.data_slices.proofs.There.{step, step_at, there}
use Rattle.data_slices.proofs.Walking.{own_name}

-- changes of one name, one after the other
abbrev pub steps : List Change → Result (List Payload) ChangeError →
    Result (List Payload) ChangeError
steps [] r = r
steps (c ∷ cs) (Ok s) = steps cs (step c s)
steps (c ∷ cs) (Err e) = Err e

refused : (cs : List Change) (e : ChangeError) → steps cs (Err e) ≡ Err e
refused [] e = refl
refused (c ∷ cs) e = refl

no_ok : (cs : List Change) (e : ChangeError) (s : List Payload) → steps cs (Err e) ≡ Ok s → ⊥
no_ok cs e s h = let no = sym (refused cs e) ∙ h in absurd cc

no_data : (cs : List Change) (e : ChangeError) (d : List Payload) → after_all cs (Err e) ≡ Ok d → ⊥
no_data cs e d h = let no = sym (refused_all cs e) ∙ h in absurd cc

-- ---- all changes, and those of a name

name_at : (p : Payload) (c : Change) (cs : List Change) (d f e : List Payload) → IsData d →
    after c d ≡ Ok f → steps (of_name p cs) (Ok (there p f)) ≡ Ok (there p e) → (b : Bool) →
    is_eq (name_cmp p c.payload) ≡ b →
    steps (cond b (c ∷ of_name p cs) (of_name p cs)) (Ok (there p d)) ≡ Ok (there p e)
name_at p c cs d f e s h ih true n =
    ap (steps (of_name p cs)) (sym (same_step c.action p c.payload d s n) ∙ ap (seen p) h) ∙ ih
name_at p c cs d f e s h ih false n =
    ap (λ l. steps (of_name p cs) (Ok l)) (sym (other_step c.action p c.payload d f s n h)) ∙ ih

name_step : (p : Payload) (c : Change) (cs : List Change) (d e : List Payload) → IsData d →
    ((f : List Payload) → IsData f → after_all cs (Ok f) ≡ Ok e →
    steps (of_name p cs) (Ok (there p f)) ≡ Ok (there p e)) →
    (r : Result (List Payload) ChangeError) → after c d ≡ r → after_all cs r ≡ Ok e →
    steps (of_name p (c ∷ cs)) (Ok (there p d)) ≡ Ok (there p e)
name_step p c cs d e s ih (Ok f) is h =
    name_at p c cs d f e s is (ih f (after_data c d f s is) h) (is_eq (name_cmp p c.payload)) refl
name_step p c cs d e s ih (Err x) is h = absurd (no_data cs x e h)

pub of_each_name : (p : Payload) (cs : List Change) (d e : List Payload) → IsData d →
    after_all cs (Ok d) ≡ Ok e → steps (of_name p cs) (Ok (there p d)) ≡ Ok (there p e)
of_each_name p [] d e s h = let same : d ≡ e = cc in ap (λ l. Ok (there p l)) same
of_each_name p (c ∷ cs) d e s h =
    name_step p c cs d e s (λ f t g. of_each_name p cs f e t g) (after c d) refl h

-- ---- and back

abbrev Allowed : List Change → List Payload → Type 0
Allowed cs s = (t : List Payload) × (steps cs (Ok s) ≡ Ok t)

first_refused : (c : Change) (cs : List Change) (d : List Payload) (x : ChangeError) → IsData d →
    after c d ≡ Err x → Allowed (of_name c.payload (c ∷ cs)) (there c.payload d) → ⊥
first_refused c cs d x s is (t, h) =
    no_ok (of_name c.payload cs) x t
    (ap (steps (of_name c.payload cs))
    (ap (seen c.payload) (sym is) ∙ same_step c.action c.payload c.payload d s (own_name c.payload))
    ∙ sym (ap (λ b. steps (cond b (c ∷ of_name c.payload cs) (of_name c.payload cs))
    (Ok (there c.payload d))) (own_name c.payload)) ∙ h)

later_allowed : (p : Payload) (c : Change) (cs : List Change) (d f : List Payload) → IsData d →
    after c d ≡ Ok f → (b : Bool) → is_eq (name_cmp p c.payload) ≡ b →
    Allowed (cond b (c ∷ of_name p cs) (of_name p cs)) (there p d) →
    Allowed (of_name p cs) (there p f)
later_allowed p c cs d f s is true n (t, h) = (
  t,
  ap (steps (of_name p cs)) (ap (seen p) (sym is) ∙ same_step c.action p c.payload d s n) ∙ h,
)
later_allowed p c cs d f s is false n (t, h) =
    (t, ap (λ l. steps (of_name p cs) (Ok l)) (other_step c.action p c.payload d f s n is) ∙ h)

allowed_at : (c : Change) (cs : List Change) (d : List Payload) → IsData d →
    ((f : List Payload) → IsData f → ((p : Payload) → Allowed (of_name p cs) (there p f)) →
    (e : List Payload) × (after_all cs (Ok f) ≡ Ok e)) →
    ((p : Payload) → Allowed (of_name p (c ∷ cs)) (there p d)) →
    (r : Result (List Payload) ChangeError) → after c d ≡ r →
    (e : List Payload) × (after_all cs r ≡ Ok e)
allowed_at c cs d s ih all (Ok f) is =
    ih f (after_data c d f s is)
    (λ p. later_allowed p c cs d f s is (is_eq (name_cmp p c.payload)) refl (all p))
allowed_at c cs d s ih all (Err x) is = absurd (first_refused c cs d x s is (all c.payload))

pub all_allowed : (cs : List Change) (d : List Payload) → IsData d →
    ((p : Payload) → Allowed (of_name p cs) (there p d)) →
    (e : List Payload) × (after_all cs (Ok d) ≡ Ok e)
all_allowed [] d s all = (d, refl)
all_allowed (c ∷ cs) d s all =
    allowed_at c cs d s (λ f t a. all_allowed cs f t a) all (after c d) refl

-- ---- changes of one name

-- what is there after a change
abbrev made_at : Action → Payload → List Payload
made_at Announce x = x ∷ []
made_at Withdraw x = []

if_ok : (b : Bool) (e : ChangeError) (x t : List Payload) → cond b (Err e) (Ok x) ≡ Ok t →
    (b ≡ false) × (x ≡ t)
if_ok true e x t h = absurd cc
if_ok false e x t h = (refl, cc)

unless_ok : (b : Bool) (e : ChangeError) (x t : List Payload) → cond b (Ok x) (Err e) ≡ Ok t →
    (b ≡ true) × (x ≡ t)
unless_ok true e x t h = (refl, cc)
unless_ok false e x t h = absurd cc

-- a change that is allowed there
abbrev May : Action → Payload → List Payload → Type 0
May Announce x s = (is_some s && not (takes_place x)) ≡ false
May Withdraw x s = is_some s ≡ true

step_ok : (a : Action) (x : Payload) (s t : List Payload) → step_at a x s ≡ Ok t →
    May a x s × (made_at a x ≡ t)
step_ok Announce x s t h = if_ok (is_some s && not (takes_place x)) _ (x ∷ []) t h
step_ok Withdraw x s t h = unless_ok (is_some s) _ [] t h

may_step : (a : Action) (x : Payload) (s : List Payload) → May a x s →
    step_at a x s ≡ Ok (made_at a x)
may_step Announce x s h = ap (λ b. cond b (Err Duplicate) (Ok (x ∷ []))) h
may_step Withdraw x s h = ap (λ b. cond b (Ok []) (Err Unknown)) h

first_ok : (c : Change) (cs : List Change) (s t : List Payload)
    (r : Result (List Payload) ChangeError) → step c s ≡ r → steps cs r ≡ Ok t →
    May c.action c.payload s × (steps cs (Ok (made_at c.action c.payload)) ≡ Ok t)
first_ok c cs s t (Ok u) is h =
    let k = step_ok c.action c.payload s u is in
    (k.0, ap (λ l. steps cs (Ok l)) k.1 ∙ h)
first_ok c cs s t (Err e) is h = absurd (no_ok cs e t h)

pub begun : (c : Change) (cs : List Change) (s t : List Payload) → steps (c ∷ cs) (Ok s) ≡ Ok t →
    May c.action c.payload s × (steps cs (Ok (made_at c.action c.payload)) ≡ Ok t)
begun c cs s t h = first_ok c cs s t (step c s) refl h

and_not : (b : Bool) → (true && not b) ≡ false → b ≡ true
and_not true h = refl
and_not false h = absurd (true≢false h)

follows : (a b : Action) (x y : Payload) → May b y (made_at a x) → may_follow a b y ≡ true
follows Announce Announce x y h = and_not (takes_place y) h
follows Announce Withdraw x y h = refl
follows Withdraw Announce x y h = refl
follows Withdraw Withdraw x y h = absurd (false≢true h)

all_follow : (c : Change) (cs : List Change) (t : List Payload) →
    steps cs (Ok (made_at c.action c.payload)) ≡ Ok t → Follow c cs
all_follow c [] t h = tt
all_follow c (d ∷ ds) t h =
    let k = begun d ds (made_at c.action c.payload) t h in
    (follows c.action d.action c.payload d.payload k.0, all_follow d ds t k.1)

pub linked : (cs : List Change) (s t : List Payload) → steps cs (Ok s) ≡ Ok t → AreLinked cs
linked [] s t h = tt
linked (c ∷ cs) s t h = all_follow c cs t (begun c cs s t h).1

-- the last of them decides
ended : (c : Change) (cs : List Change) (t : List Payload) →
    steps cs (Ok (made_at c.action c.payload)) ≡ Ok t →
    made_at (last_of c cs).action (last_of c cs).payload ≡ t
ended c [] t h = cc
ended c (d ∷ ds) t h = ended d ds t (begun d ds (made_at c.action c.payload) t h).1

-- ---- what they come to

abbrev OfName : Payload → List Change → Type 0
OfName p cs = AllByRecursion (λ c. is_eq (name_cmp p c.payload) ≡ true) cs

of_name_at : (p : Payload) (c : Change) (cs : List Change) (b : Bool) →
    is_eq (name_cmp p c.payload) ≡ b → OfName p cs → OfName p (cond b (c ∷ cs) cs)
of_name_at p c cs true e h = (e, h)
of_name_at p c cs false e h = h

pub all_of_name : (p : Payload) (cs : List Change) → OfName p (of_name p cs)
all_of_name p [] = tt
all_of_name p (c ∷ cs) =
    of_name_at p c (of_name p cs) (is_eq (name_cmp p c.payload)) refl (all_of_name p cs)

last_of_name : (p : Payload) (c : Change) (cs : List Change) → OfName p (c ∷ cs) →
    is_eq (name_cmp p (last_of c cs).payload) ≡ true
last_of_name p c [] (e, h) = e
last_of_name p c (d ∷ ds) (e, h) = last_of_name p d ds h

-- payloads of one name take places alike
takes_alike_at : (x y : Payload) → name_cmp x y ≡ Equal → (b c : Bool) → takes_place x ≡ b →
    takes_place y ≡ c → b ≡ c
takes_alike_at x y e true true s t = refl
takes_alike_at x y e true false s t =
    sym s ∙ ap takes_place (sym (one_of_name y x (tied_back name_total x y e) t)) ∙ t
takes_alike_at x y e false c s t = sym s ∙ ap takes_place (one_of_name x y e s) ∙ t

takes_alike : (p x y : Payload) → is_eq (name_cmp p x) ≡ true → is_eq (name_cmp p y) ≡ true →
    takes_place x ≡ takes_place y
takes_alike p x y n m =
    takes_alike_at x y
    ((Equal-is (name_cmp x y)).0 (sym (laws.congr p x y n) ∙ m))
    (takes_place x) (takes_place y) refl refl

-- by what is there, nothing changes: it is there, withdrawn and announced again
same_again : (p x : Payload) (s : List Payload) → Fine p s → is_eq (name_cmp p x) ≡ true →
    takes_place x ≡ false → is_some s ≡ true → s ≡ x ∷ []
same_again p x [] f n t h = absurd (false≢true h)
same_again p x (y ∷ []) f n t h =
    let same : x ≡ y =
    one_of_name x y ((Equal-is (name_cmp x y)).0 (sym (laws.congr p x y n) ∙ f)) t in
    (λ i. sym same i ∷ [])
same_again p x (y ∷ z ∷ s) f n t h = absurd f

none_there : (s : List Payload) → is_some s ≡ false → s ≡ []
none_there [] h = refl
none_there (x ∷ s) h = absurd (true≢false h)

and_false : (b : Bool) → (b && not true) ≡ false
and_false true = refl
and_false false = refl

or_fewer : (b : Bool) → (b && not false) ≡ false → b ≡ false
or_fewer true h = absurd (true≢false h)
or_fewer false h = refl

module _ (p : Payload) (s : List Payload) (f : Fine p s) (x y : Payload)
    (first : is_eq (name_cmp p x) ≡ true) (last : is_eq (name_cmp p y) ≡ true) where
  alike : takes_place x ≡ takes_place y
  alike = takes_alike p x y first last

  -- announced again, by whether it takes a place
  again : (t : Bool) → takes_place y ≡ t → is_some s ≡ true →
      steps (cond t (record { action = Announce; payload = y } ∷ []) []) (Ok s) ≡ Ok (y ∷ [])
  again true t h =
      may_step Announce y s (ap (λ b. is_some s && not b) t ∙ and_false (is_some s))
  again false t h = ap (λ l. Ok l) (same_again p y s f last t h)

  -- by the first and the last action
  by_actions : (a b : Action) → May a x s → is_open a b y ≡ false →
      steps (cond (settles a b y) (record { action = b; payload = y } ∷ []) []) (Ok s) ≡
      Ok (made_at b y)
  by_actions Announce Announce m o =
      may_step Announce y s (ap (λ b. is_some s && not b) (sym alike) ∙ m)
  by_actions Withdraw Withdraw m o = may_step Withdraw y s m
  by_actions Withdraw Announce m o = again (takes_place y) refl m
  by_actions Announce Withdraw m o =
      ap (λ l. Ok l)
      (none_there s (or_fewer (is_some s)
      (ap (λ b. is_some s && not b) (sym (alike ∙ o)) ∙ m)))

net_of_name : (p : Payload) (cs : List Change) (s t : List Payload) → Fine p s → OfName p cs →
    undecided cs ≡ false → steps cs (Ok s) ≡ Ok t → steps (net cs) (Ok s) ≡ Ok t
net_of_name p [] s t f n o h = h
net_of_name p (c ∷ cs) s t f n o h =
    let k = begun c cs s t h in
    let l = last_of c cs in
    by_actions p s f c.payload l.payload n.0 (last_of_name p c cs n) c.action l.action k.0 o
    ∙ ap (λ r. Ok r) (ended c cs t k.1)

-- ---- all of it

pub all_linked : (cs : List Change) (d e : List Payload) → IsData d →
    after_all cs (Ok d) ≡ Ok e → (p : Payload) → AreLinked (of_name p cs)
all_linked cs d e s h p = linked (of_name p cs) (there p d) (there p e) (of_each_name p cs d e s h)

module _ (cs ns : List Change) (d e : List Payload) (s : IsData d)
    (h : after_all cs (Ok d) ≡ Ok e) (decided : AreDecided cs) (n : Nets cs ns) where
  net_steps : (p : Payload) → steps (of_name p ns) (Ok (there p d)) ≡ Ok (there p e)
  net_steps p =
      ap (λ l. steps l (Ok (there p d))) (n.of_each p)
      ∙ net_of_name p (of_name p cs) (there p d) (there p e) (fine p d s) (all_of_name p cs)
      (decided p) (of_each_name p cs d e s h)

  same_there : (f : List Payload) → after_all ns (Ok d) ≡ Ok f → (p : Payload) →
      there p f ≡ there p e
  same_there f g p =
      let same = sym (of_each_name p ns d f s g) ∙ net_steps p in
      cc

  pub nets_lead : after_all ns (Ok d) ≡ Ok e
  nets_lead =
      let (f, g) = all_allowed ns d s (λ p. (there p e, net_steps p)) in
      g ∙ ap (λ l. Ok l)
      (same_data f e (after_all_data ns d f s g) (after_all_data cs d e s h) (same_there f g))
