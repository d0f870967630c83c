-- What stands for a term goes on to stand for it where words are written behind.
use Rattle.std.proofs.Common.{◌≡◌, ℕ, zero, suc, ◌-◌, ◌*◌, ◌≤◌, List, [], ◌∷◌, ◌++◌, length, take, drop, Some, slice_get, refl, sym, ap, subst, arith}
use Rattle.std.proofs.lemmas.List.{take-append-drop}
use Rattle.std.proofs.lemmas.Option.{none-some}
use Rattle.region_memory.specs.declared.layout.TheConstants.{HEAP_END}
use Rattle.hipe_terms.specs.Terms.{Term, integer, atom, nil, cons, tuple, fun, Terms, none, more}
use Rattle.heap_terms.specs.Shapes.{Symbols, heap_begin}
use Rattle.heap_terms.specs.Standing.{StandsIn, AllStandIn}
use Rattle.heap_terms_laws.specs.Prefixes.{StandsGrow, PrefixesStand, PrefixesHaveTerms}
use Rattle.heap_terms_laws.proofs.Having.{term_has}

pub get_prefix : (words new : List ℕ) (i w : ℕ) → slice_get words i ≡ Some w → slice_get (words ++ new) i ≡ Some w
get_prefix [] new i w e = absurd (none-some w e)
get_prefix (x ∷ words) new zero w e = e
get_prefix (x ∷ words) new (suc i) w e = get_prefix words new i w e

module _ (symbols : Symbols) (begin : ℕ) (words new : List ℕ) where
  mutual
    pub grown : (t : Term) (below limit w : ℕ) → below ≤ limit → StandsIn symbols begin words below t w → StandsIn symbols begin (words ++ new) limit t w
    grown (integer n) below limit w l h = h
    grown (atom a) below limit w l h = h
    grown nil below limit w l h = h
    grown (cons t u) below limit w l h = (
      h.0,
      omega (arith, h.1),
      h.2,
      h.3,
      h.4,
      get_prefix words new h.0 h.3 h.5,
      get_prefix words new (suc h.0) h.4 h.6,
      grown t h.0 h.0 h.3 (omega arith) h.7,
      grown u h.0 h.0 h.4 (omega arith) h.8,
    )
    grown (tuple ts) below limit w l h = (h.0, omega (arith, h.1), h.2, get_prefix words new h.0 _ h.3, all_grown ts h.0 (suc h.0) h.4)
    grown (fun f ts) below limit w l h =
        (h.0, omega (arith, h.1), h.2, get_prefix words new h.0 _ h.3, h.4, get_prefix words new (suc h.0) _ h.5, all_grown ts h.0 (suc (suc h.0)) h.6)

    all_grown : (ts : Terms) (below i : ℕ) → AllStandIn symbols begin words below ts i → AllStandIn symbols begin (words ++ new) below ts i
    all_grown none below i h = tt
    all_grown (more t ts) below i h = (h.0, get_prefix words new i h.0 h.1, grown t below below h.0 (omega arith) h.2, all_grown ts below (suc i) h.3)

pub stands_grow : StandsGrow
stands_grow symbols begin words new below limit t w l h = grown symbols begin words new t below limit w l h

-- a prefix of another length
prefix_more : (n m : ℕ) (heap : List ℕ) → n ≤ m → (new : List ℕ) × (take m heap ≡ take n heap ++ new)
prefix_more zero m heap l = (take m heap, refl)
prefix_more (suc n) zero heap l = absurd (omega arith)
prefix_more (suc n) (suc m) [] l = ([], refl)
prefix_more (suc n) (suc m) (x ∷ heap) l =
    let rest : (new : List ℕ) × (take m heap ≡ take n heap ++ new) = prefix_more n m heap (omega arith) in
    (rest.0, ap (λ ys. x ∷ ys) rest.1)

pub prefixes_stand : PrefixesStand
prefixes_stand symbols heap other n m t w same l h =
    let rest : (new : List ℕ) × (take m other ≡ take n other ++ new) = prefix_more n m other l in
    let here : StandsIn symbols (heap_begin other) (take n other) n t w
    = subst (λ ws. StandsIn symbols (heap_begin other) ws n t w) same.words (subst (λ k. StandsIn symbols (HEAP_END - 8 * k) (take n heap) n t w) same.size h) in
    subst (λ ws. StandsIn symbols (heap_begin other) ws m t w) (sym rest.1) (grown symbols (heap_begin other) (take n other) rest.0 t n m w l here)

pub prefixes_have_terms : PrefixesHaveTerms
prefixes_have_terms symbols heap n t w l h =
    term_has symbols heap t (length heap) w
    (subst (λ ws. StandsIn symbols (heap_begin heap) ws (length heap) t w) (take-append-drop n heap)
    (grown symbols (heap_begin heap) (take n heap) (drop n heap) t n (length heap) w l h))
