-- What is still to be followed.
use Rattle.std.proofs.Common.{◌≡◌, ℕ, ◌+◌, Bool, true, false, ◌&&◌, List, [], ◌∷◌, ◌++◌, length, Option, Some, None, refl, sym, ap, ◌∙◌, add_assoc, arith}
use Rattle.hipe_terms.specs.Terms.{Term, Terms}
use Rattle.heap_terms.specs.declared.follow.Pending.{Pending}
use Rattle.heap_terms.specs.Shapes.{Symbols}
use Rattle.heap_terms.specs.Terms.{is_some, both, joined, tuple_term, fun_term}
use Rattle.heap_terms.specs.Following.{are_some, words_stand, pending_stands, pending_size, stand_last, size_last}
use Rattle.heap_terms.proofs.Levels.{term_is, size_is}

pub both_stand : (t u : Option Term) → is_some (both t u) ≡ is_some t && is_some u
both_stand (Some t) (Some u) = refl
both_stand (Some t) None = refl
both_stand None u = refl

pub tuple_stands : (ts : Option Terms) → is_some (tuple_term ts) ≡ are_some ts
tuple_stands (Some ts) = refl
tuple_stands None = refl

pub fun_stands : (n : ℕ) (ts : Option Terms) → is_some (fun_term n ts) ≡ are_some ts
fun_stands n (Some ts) = refl
fun_stands n None = refl

pub joined_stand : (t : Option Term) (ts : Option Terms) → are_some (joined t ts) ≡ is_some t && are_some ts
joined_stand (Some t) (Some ts) = refl
joined_stand (Some t) None = refl
joined_stand None ts = refl

pub and_assoc : (a b c : Bool) → (a && b) && c ≡ a && (b && c)
and_assoc true b c = refl
and_assoc false b c = refl

pub and_true : (a : Bool) → a && true ≡ a
and_true true = refl
and_true false = refl

pub last_pushed : (symbols : Symbols) (heap : List ℕ) (ps : List Pending) (p : Pending) → stand_last symbols heap (ps ++ p ∷ []) ≡ pending_stands symbols heap p && stand_last symbols heap ps
last_pushed symbols heap [] p = sym (and_true (pending_stands symbols heap p))
last_pushed symbols heap (q ∷ ps) p = ap (λ b. b && pending_stands symbols heap q) (last_pushed symbols heap ps p) ∙ and_assoc (pending_stands symbols heap p) (stand_last symbols heap ps) (pending_stands symbols heap q)

pub size_pushed : (symbols : Symbols) (heap : List ℕ) (ps : List Pending) (p : Pending) → size_last symbols heap (ps ++ p ∷ []) ≡ pending_size symbols heap p + size_last symbols heap ps
size_pushed symbols heap [] p = omega arith
size_pushed symbols heap (q ∷ ps) p = ap (λ n. n + pending_size symbols heap q) (size_pushed symbols heap ps p) ∙ add_assoc (pending_size symbols heap p) (size_last symbols heap ps) (pending_size symbols heap q)

pub none_stand : (symbols : Symbols) (heap : List ℕ) (below : ℕ) (ws : List ℕ) → length ws ≡ 0 → words_stand symbols heap below ws ≡ true
none_stand symbols heap below [] e = refl
none_stand symbols heap below (w ∷ ws) e = absurd (omega arith)

pub ruleset following = (term_is, size_is, last_pushed, size_pushed, both_stand, tuple_stands, fun_stands, joined_stand, and_assoc, none_stand)
