-- Lists of bytes that are units on their way, one by one.
use Rattle.std.proofs.Common.{◌≡◌, List, [], ◌∷◌, ◌++◌, ℕ, refl}
use Rattle.data_memory.specs.Data.{Change}
use Rattle.session_router.specs.declared.head.Head.{Head}
use Rattle.session_cache.specs.Worlds.{Sent}
use Rattle.session_bytes.specs.Sending.{AreWhole}
use Rattle.session_laws.specs.Pipes.{AreOnTheirWay, AreQueries}

-- ---- to the router

pub all_whole : (bs : List (List ℕ)) (xs : List (Sent Change)) → AreOnTheirWay bs xs → AreWhole bs
all_whole [] xs way = tt
all_whole (b ∷ bs) [] way = absurd way
all_whole (b ∷ bs) (x ∷ xs) way = ((x.head, way.0.has), all_whole bs xs way.1)

pub more_way : (bs cs : List (List ℕ)) (xs ys : List (Sent Change)) → AreOnTheirWay bs xs →
    AreOnTheirWay cs ys → AreOnTheirWay (bs ++ cs) (xs ++ ys)
more_way [] cs [] ys way more = more
more_way [] cs (x ∷ xs) ys way more = absurd way
more_way (b ∷ bs) cs [] ys way more = absurd way
more_way (b ∷ bs) cs (x ∷ xs) ys way more = (way.0, more_way bs cs xs ys way.1 more)

-- the first of the units, where there is a first list of bytes
pub record First (b : List ℕ) (bs : List (List ℕ)) (xs : List (Sent Change)) : Type 0 where
  pub unit : Sent Change
  pub others : List (Sent Change)
  pub parts : xs ≡ unit ∷ others
  pub is : AreOnTheirWay (b ∷ bs) (unit ∷ others)

pub first_way : (b : List ℕ) (bs : List (List ℕ)) (xs : List (Sent Change)) →
    AreOnTheirWay (b ∷ bs) xs → First b bs xs
first_way b bs [] way = absurd way
first_way b bs (x ∷ xs) way = record { unit = x; others = xs; parts = refl; is = way }

-- ---- to the cache

pub queries_whole : (bs : List (List ℕ)) (us : List Head) → AreQueries bs us → AreWhole bs
queries_whole [] us way = tt
queries_whole (b ∷ bs) [] way = absurd way
queries_whole (b ∷ bs) (u ∷ us) way = ((u, way.0), queries_whole bs us way.1)

pub more_queries : (bs cs : List (List ℕ)) (us vs : List Head) → AreQueries bs us →
    AreQueries cs vs → AreQueries (bs ++ cs) (us ++ vs)
more_queries [] cs [] vs way more = more
more_queries [] cs (u ∷ us) vs way more = absurd way
more_queries (b ∷ bs) cs [] vs way more = absurd way
more_queries (b ∷ bs) cs (u ∷ us) vs way more = (way.0, more_queries bs cs us vs way.1 more)

pub record FirstQuery (b : List ℕ) (bs : List (List ℕ)) (us : List Head) : Type 0 where
  pub head : Head
  pub others : List Head
  pub parts : us ≡ head ∷ others
  pub is : AreQueries (b ∷ bs) (head ∷ others)

pub first_query : (b : List ℕ) (bs : List (List ℕ)) (us : List Head) → AreQueries (b ∷ bs) us →
    FirstQuery b bs us
first_query b bs [] way = absurd way
first_query b bs (u ∷ us) way = record { head = u; others = us; parts = refl; is = way }
