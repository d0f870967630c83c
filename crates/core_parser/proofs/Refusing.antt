-- The machine reads exactly what is derived, and refuses the first terminal that doesn't go on.
use Rattle.std.proofs.Common.{◌≡◌, ℕ, suc, ◌≤◌, List, [], ◌∷◌, ◌++◌, length, Bool, true, false, ◌&&◌, ◌||◌, nat_le, if◌then◌else◌, Ok, Err, refl, ap, sym, ◌∙◌, append_assoc, append-nil, arith, subst}
use Rattle.std.proofs.lemmas.Bool.Decides.{nat_tests}
use Rattle.hipe_base.specs.declared.limits.TheConstants.{ARITY_LIMIT}
use Rattle.hipe_terms.specs.declared.place.Place.{Place}
use Rattle.core_grammar.specs.declared.fault.Fault.{Fault}
use Rattle.core_grammar.specs.declared.terminal.Terminal.{Terminal}
use Rattle.core_grammar.specs.Leave.{Need, part, variable_operand, argument, Leave}
use Rattle.core_grammar.specs.Language.{Derivation, limit, any, any_operand, within, Viable, Fine}
use Rattle.core_parser.specs.declared.moved.Wanted.{Wanted}
use Rattle.core_parser.specs.declared.symbol.Symbol.{Symbol}
use Rattle.core_parser.specs.declared.value.Value.{Value}
use Rattle.core_parser.specs.Values.{Values}
use Rattle.core_parser.specs.Machine.{Symbols, Move, Go, No, move, gone, why, why_not, has_operand, all_ok, run, Answer}
use Rattle.core_parser.proofs.Meaning.{Holds, done}
use Rattle.core_parser.proofs.Backs.{Backs, and_parts}
use Rattle.core_parser.proofs.Sound.{move_back}
use Rattle.core_parser.proofs.Ends.{ending, ends}

abbrev pub read_as : Values → Answer
read_as vs = Ok vs

abbrev pub refused_as : Fault × Place → Answer
refused_as x = Err x

-- whatever the levels and the numbers of arguments
pub record Loose (ok : Leave) : Type 0 where
  parts : (k : ℕ) (us : List Terminal) → ok (part k) us ≡ true
  arguments : (i : ℕ) (us : List Terminal) → ok (argument i) us ≡ true

pub any_loose : Loose any
any_loose = record { parts = λ k us. refl; arguments = λ i us. refl }

pub any_operand_loose : Loose any_operand
any_operand_loose = record { parts = λ k us. refl; arguments = λ i us. refl }

pub operand_is_not_any : (needs : List Need) (ts : List Terminal) → has_operand needs ≡ true → all_ok any needs ts ≡ false
operand_is_not_any [] ts h = cc
operand_is_not_any (part k ∷ needs) ts h = operand_is_not_any needs ts h
operand_is_not_any (variable_operand ∷ needs) ts h = refl
operand_is_not_any (argument i ∷ needs) ts h = operand_is_not_any needs ts h

pub others_are_any : (needs : List Need) (ts : List Terminal) → has_operand needs ≡ false → all_ok any needs ts ≡ true
others_are_any [] ts h = refl
others_are_any (part k ∷ needs) ts h = others_are_any needs ts h
others_are_any (variable_operand ∷ needs) ts h = cc
others_are_any (argument i ∷ needs) ts h = others_are_any needs ts h

pub all_are_any_operand : (needs : List Need) (ts : List Terminal) → all_ok any_operand needs ts ≡ true
all_are_any_operand [] ts = refl
all_are_any_operand (need ∷ needs) ts = all_are_any_operand needs ts

pub regroup : (us : List Terminal) (t : Terminal) (ws : List Terminal) → (us ++ t ∷ []) ++ ws ≡ us ++ t ∷ ws
regroup us t ws = append_assoc us (t ∷ []) ws

or_true : (a b : Bool) → b ≡ true → (a || b) ≡ true
or_true true b h = refl
or_true false b h = h

le_is : (a b : ℕ) → a ≤ b → nat_le a b ≡ true
le_is a b h = grind (arith, nat_tests)

-- the machine reads a language from a start: what is derived is read, and what the start means is derived
pub record Reads (A : Type 0) (D : Derivation A) (value : A → Value) (start : Symbols) : Type 0 where
  pub complete : (ok : Leave) (z : Place) (ts : List Terminal) (a : A) → D ok ts a → run ok z start [] ts ≡ Ok (value a ∷ [])
  pub holds : (ok : Leave) (ts : List Terminal) → Holds ok start ts → (a : A) × D ok ts a

module _ (z : Place) where
  gone_ok : (ok : Leave) (m : Move) (t : Terminal) (ts : List Terminal) (ws : Values) (X : Type 0) → Backs ok m t ts X → ((ss : Symbols) (vs : Values) → run ok z ss vs ts ≡ Ok ws → Holds ok ss ts) → gone m (λ needs. all_ok ok needs (t ∷ ts)) t.kind t.at (λ ss vs. run ok z ss vs ts) ≡ Ok ws → X
  gone_ok ok (No wanted) t ts ws X b go h = cc
  gone_ok ok (Go ss vs needs) t ts ws X b go h = tested (all_ok ok needs (t ∷ ts)) b h
    where
      tested : (a : Bool) → (a ≡ true → Holds ok ss ts → X) → (if a then run ok z ss vs ts else Err (why_not needs, t.at)) ≡ Ok ws → X
      tested true b h = b refl (go ss vs h)
      tested false b h = cc

  -- what the machine takes holds of its symbols
  pub sound_run : (ok : Leave) (ts : List Terminal) (ss : Symbols) (vs ws : Values) → run ok z ss vs ts ≡ Ok ws → Holds ok ss ts
  sound_run ok [] [] vs ws h = done
  sound_run ok [] (s ∷ ss) vs ws h = cc
  sound_run ok (t ∷ ts) ss vs ws h = gone_ok ok (move ss vs t.kind t.at) t ts ws (Holds ok ss (t ∷ ts)) (move_back ok ss vs t.kind t.at ts) (λ ss vs. sound_run ok ts ss vs ws) h

  pub one_value : {x y : Values} → read_as x ≡ read_as y → x ≡ y
  one_value h = cc

  module _ (n : ℕ) where
    -- what is within the limit may be
    pub record Wider (ok : Leave) : Type 0 where
      pub parts : (k : ℕ) (us : List Terminal) → nat_le k n ≡ true → ok (part k) us ≡ true
      pub arguments : (i : ℕ) (us : List Terminal) → nat_le i ARITY_LIMIT ≡ true → ok (argument i) us ≡ true

    pub loose_is_wider : (ok : Leave) → Loose ok → Wider ok
    loose_is_wider ok l = record { parts = λ k us h. l.parts k us; arguments = λ i us h. l.arguments i us }

    pub within_is_wider : (m : ℕ) → Wider (within n m)
    within_is_wider m = record {
      parts = λ k us h. ap (λ b. b || nat_le (length us) m) h;
      arguments = λ i us h. ap (λ b. b || nat_le (length us) m) h;
    }

    pub wider_all : (ok : Leave) → Wider ok → (needs : List Need) (cs bs : List Terminal) → all_ok (limit n) needs cs ≡ true → all_ok ok needs bs ≡ true
    wider_all ok w [] cs bs h = refl
    wider_all ok w (part k ∷ needs) cs bs h =
        let p = and_parts ok (nat_le k n) (all_ok (limit n) needs cs) h in
        ap (λ b. b && all_ok ok needs bs) (w.parts k bs p.0) ∙ wider_all ok w needs cs bs p.1
    wider_all ok w (variable_operand ∷ needs) cs bs h = cc
    wider_all ok w (argument i ∷ needs) cs bs h =
        let p = and_parts ok (nat_le i ARITY_LIMIT) (all_ok (limit n) needs cs) h in
        ap (λ b. b && all_ok ok needs bs) (w.arguments i bs p.0) ∙ wider_all ok w needs cs bs p.1

    -- from one state to another over terminals
    pub record Path (ss : Symbols) (vs : Values) (us : List Terminal) (ss' : Symbols) (vs' : Values) : Type 0 where
      pub reach : (ok : Leave) → Wider ok → (xs : List Terminal) → run ok z ss vs (us ++ xs) ≡ run ok z ss' vs' xs
      pub back : (ok : Leave) → Wider ok → (xs : List Terminal) → Holds ok ss' xs → Holds ok ss (us ++ xs)

    pub no_path : (ss : Symbols) (vs : Values) → Path ss vs [] ss vs
    no_path ss vs = record { reach = λ ok w xs. refl; back = λ ok w xs h. h }

    pub longer_path : (t : Terminal) (ts us : List Terminal) (ss ss' ss'' : Symbols) (vs vs' vs'' : Values) (needs : List Need) → move ss vs t.kind t.at ≡ Go ss' vs' needs → all_ok (limit n) needs ts ≡ true → Path ss' vs' us ss'' vs'' → Path ss vs (t ∷ us) ss'' vs''
    longer_path t ts us ss ss' ss'' vs vs' vs'' needs e a p = record {
      reach = λ ok w xs.
          ap (λ m. gone m (λ needs. all_ok ok needs (t ∷ us ++ xs)) t.kind t.at (λ ss vs. run ok z ss vs (us ++ xs))) e
          ∙ ap (λ b. if b then run ok z ss' vs' (us ++ xs) else Err (why_not needs, t.at)) (wider_all ok w needs ts (t ∷ us ++ xs) a)
          ∙ p.reach ok w xs;
      back = λ ok w xs h.
          let b : Backs ok (Go ss' vs' needs) t (us ++ xs) (Holds ok ss (t ∷ us ++ xs)) = subst (λ (m : Move). Backs ok m t (us ++ xs) (Holds ok ss (t ∷ us ++ xs))) e (move_back ok ss vs t.kind t.at (us ++ xs)) in
          b (wider_all ok w needs ts (t ∷ us ++ xs) a) (p.back ok w xs h);
    }

    -- where a run is refused, and the path to it
    pub data Found (ss : Symbols) (vs : Values) (ts : List Terminal) : Fault → Place → Type 0 where
      found_none : (us : List Terminal) (t : Terminal) (ws : List Terminal) (ss' : Symbols) (vs' : Values) (wanted : Wanted) → ts ≡ us ++ t ∷ ws → Path ss vs us ss' vs' → move ss' vs' t.kind t.at ≡ No wanted → Found ss vs ts (why t.kind wanted) t.at
      found_not_allowed : (us : List Terminal) (t : Terminal) (ws : List Terminal) (ss' ss'' : Symbols) (vs' vs'' : Values) (needs : List Need) → ts ≡ us ++ t ∷ ws → Path ss vs us ss' vs' → move ss' vs' t.kind t.at ≡ Go ss'' vs'' needs → all_ok (limit n) needs (t ∷ ws) ≡ false → Found ss vs ts (why_not needs) t.at
      found_end : (s : Symbol) (ss' : Symbols) (vs' : Values) → Path ss vs ts (s ∷ ss') vs' → Found ss vs ts Fault.Syntax z

    longer_found : (t : Terminal) (ts : List Terminal) (ss ss' : Symbols) (vs vs' : Values) (needs : List Need) (f : Fault) (p : Place) → move ss vs t.kind t.at ≡ Go ss' vs' needs → all_ok (limit n) needs (t ∷ ts) ≡ true → Found ss' vs' ts f p → Found ss vs (t ∷ ts) f p
    longer_found t ts ss ss' vs vs' needs f p e a (found_none us u ws ss'' vs'' wanted is path stuck) = found_none (t ∷ us) u ws ss'' vs'' wanted (ap (λ xs. t ∷ xs) is) (longer_path t (t ∷ ts) us ss ss' ss'' vs vs' vs'' needs e a path) stuck
    longer_found t ts ss ss' vs vs' needs f p e a (found_not_allowed us u ws ss'' ss3 vs'' vs3 ks is path go over) = found_not_allowed (t ∷ us) u ws ss'' ss3 vs'' vs3 ks (ap (λ xs. t ∷ xs) is) (longer_path t (t ∷ ts) us ss ss' ss'' vs vs' vs'' needs e a path) go over
    longer_found t ts ss ss' vs vs' needs f p e a (found_end s ss'' vs'' path) = found_end s ss'' vs'' (longer_path t (t ∷ ts) ts ss ss' (s ∷ ss'') vs vs' vs'' needs e a path)

    fault_is : {a b : Fault × Place} → refused_as a ≡ refused_as b → a ≡ b
    fault_is h = cc

    pub find : (ts : List Terminal) (ss : Symbols) (vs : Values) (x : Fault × Place) → run (limit n) z ss vs ts ≡ Err x → Found ss vs ts x.0 x.1
    find [] [] vs x h = cc
    find [] (s ∷ ss) vs x h = subst (λ (x : Fault × Place). Found (s ∷ ss) vs [] x.0 x.1) (fault_is h) (found_end s ss vs (no_path (s ∷ ss) vs))
    find (t ∷ ts) ss vs x h = by_move (λ ss' vs'. find ts ss' vs' x) (move ss vs t.kind t.at) refl h
      where
        by_test : ((ss' : Symbols) (vs' : Values) → run (limit n) z ss' vs' ts ≡ Err x → Found ss' vs' ts x.0 x.1) → (ss' : Symbols) (vs' : Values) (needs : List Need) → move ss vs t.kind t.at ≡ Go ss' vs' needs → (a : Bool) → all_ok (limit n) needs (t ∷ ts) ≡ a → (if a then run (limit n) z ss' vs' ts else Err (why_not needs, t.at)) ≡ Err x → Found ss vs (t ∷ ts) x.0 x.1
        by_test finds ss' vs' needs e true a h = longer_found t ts ss ss' vs vs' needs x.0 x.1 e a (finds ss' vs' h)
        by_test finds ss' vs' needs e false a h = subst (λ (x : Fault × Place). Found ss vs (t ∷ ts) x.0 x.1) (fault_is h) (found_not_allowed [] t ts ss ss' vs vs' needs refl (no_path ss vs) e a)

        by_move : ((ss' : Symbols) (vs' : Values) → run (limit n) z ss' vs' ts ≡ Err x → Found ss' vs' ts x.0 x.1) → (m : Move) → move ss vs t.kind t.at ≡ m → gone m (λ needs. all_ok (limit n) needs (t ∷ ts)) t.kind t.at (λ ss vs. run (limit n) z ss vs ts) ≡ Err x → Found ss vs (t ∷ ts) x.0 x.1
        by_move finds (No wanted) e h = subst (λ (x : Fault × Place). Found ss vs (t ∷ ts) x.0 x.1) (fault_is h) (found_none [] t ts ss vs wanted refl (no_path ss vs) e)
        by_move finds (Go ss' vs' needs) e h = by_test finds ss' vs' needs e (all_ok (limit n) needs (t ∷ ts)) refl h

    -- what is above the limit is above it among the terminals that were read
    pub shorter : (needs : List Need) (t : Terminal) (ws as' : List Terminal) → all_ok (limit n) needs as' ≡ false → all_ok (within n (length ws)) needs (t ∷ ws) ≡ false
    shorter [] t ws as' h = h
    shorter (variable_operand ∷ needs) t ws as' h = refl
    shorter (part k ∷ needs) t ws as' h =
        let l : nat_le (suc (length ws)) (length ws) ≡ false = grind (arith, nat_tests) in
        tested (nat_le k n) (nat_le (suc (length ws)) (length ws)) l (shorter needs t ws as') h
      where
        tested : (a b : Bool) → b ≡ false → (all_ok (limit n) needs as' ≡ false → all_ok (within n (length ws)) needs (t ∷ ws) ≡ false) → (a && all_ok (limit n) needs as') ≡ false → ((a || b) && all_ok (within n (length ws)) needs (t ∷ ws)) ≡ false
        tested true b l rest h = rest h
        tested false b l rest h = ap (λ b. b && all_ok (within n (length ws)) needs (t ∷ ws)) l
    shorter (argument i ∷ needs) t ws as' h =
        let l : nat_le (suc (length ws)) (length ws) ≡ false = grind (arith, nat_tests) in
        tested (nat_le i ARITY_LIMIT) (nat_le (suc (length ws)) (length ws)) l (shorter needs t ws as') h
      where
        tested : (a b : Bool) → b ≡ false → (all_ok (limit n) needs as' ≡ false → all_ok (within n (length ws)) needs (t ∷ ws) ≡ false) → (a && all_ok (limit n) needs as') ≡ false → ((a || b) && all_ok (within n (length ws)) needs (t ∷ ws)) ≡ false
        tested true b l rest h = rest h
        tested false b l rest h = ap (λ b. b && all_ok (within n (length ws)) needs (t ∷ ws)) l

    -- a language that the machine reads from a start
    module _ (A : Type 0) (D : Derivation A) (value : A → Value) (start : Symbols) (reads : Reads A D value start) where
      -- some text goes on, with no part above the limit that begins in these terminals
      pub fine_of : (us : List Terminal) (ss' : Symbols) (vs' : Values) → Path start [] us ss' vs' → Fine A D n us
      fine_of us ss' vs' p =
          let ws = ending z ss' in
          let ok = within n (length ws) in
          let h : Holds ok ss' ws = ends z ok (length ws) (λ k xs le. or_true (nat_le k n) _ (le_is (length xs) (length ws) le)) (λ i xs le. or_true (nat_le i ARITY_LIMIT) _ (le_is (length xs) (length ws) le)) ss' (omega arith) in
          let d = reads.holds ok (us ++ ws) (p.back ok (within_is_wider (length ws)) ws h) in
          (ws, d.0, d.1)

      -- some text goes on, whatever the levels
      pub viable_of : (us : List Terminal) (ss' : Symbols) (vs' : Values) → Path start [] us ss' vs' → Viable A D any us
      viable_of us ss' vs' p =
          let ws = ending z ss' in
          let h : Holds any ss' ws = ends z any (length ws) (λ k xs le. refl) (λ i xs le. refl) ss' (omega arith) in
          let d = reads.holds any (us ++ ws) (p.back any (loose_is_wider any any_loose) ws h) in
          (ws, d.0, d.1)

      -- some text goes on with a terminal that the machine takes
      pub goes_on : (ok : Leave) → Loose ok → (us : List Terminal) (t : Terminal) (ss' ss2 : Symbols) (vs' vs2 : Values) (needs : List Need) → Path start [] us ss' vs' → move ss' vs' t.kind t.at ≡ Go ss2 vs2 needs → ((xs : List Terminal) → all_ok ok needs xs ≡ true) → Viable A D ok (us ++ t ∷ [])
      goes_on ok l us t ss' ss2 vs' vs2 needs path e all =
          let ws = ending z ss2 in
          let h : Holds ok ss2 ws = ends z ok (length ws) (λ k xs le. l.parts k xs) (λ i xs le. l.arguments i xs) ss2 (omega arith) in
          let b : Backs ok (Go ss2 vs2 needs) t ws (Holds ok ss' (t ∷ ws)) = subst (λ (m : Move). Backs ok m t ws (Holds ok ss' (t ∷ ws))) e (move_back ok ss' vs' t.kind t.at ws) in
          let d = reads.holds ok (us ++ t ∷ ws) (path.back ok (loose_is_wider ok l) (t ∷ ws) (b (all (t ∷ ws)) h)) in
          (ws, d.0, subst (λ (xs : List Terminal). D ok xs d.0) (sym (regroup us t ws)) d.1)

      -- no text goes on where the machine's answer is a refusal
      pub never : (ok : Leave) → Wider ok → (us : List Terminal) (t : Terminal) (ss' : Symbols) (vs' : Values) → Path start [] us ss' vs' → (ws : List Terminal) (x : A) (f : Fault × Place) → run ok z ss' vs' (t ∷ ws) ≡ Err f → D ok ((us ++ t ∷ []) ++ ws) x → ⊥
      never ok w us t ss' vs' path ws x f e d =
          let a : run ok z start [] (us ++ t ∷ ws) ≡ Ok (value x ∷ []) = ap (run ok z start []) (sym (regroup us t ws)) ∙ reads.complete ok z ((us ++ t ∷ []) ++ ws) x d in
          let b : run ok z start [] (us ++ t ∷ ws) ≡ run ok z ss' vs' (t ∷ ws) = path.reach ok w (t ∷ ws) in
          let c : refused_as f ≡ read_as (value x ∷ []) = sym e ∙ sym b ∙ a in
          cc

      -- .. as where there is no move
      pub stuck : (ok : Leave) → Wider ok → (us : List Terminal) (t : Terminal) (ss' : Symbols) (vs' : Values) (wanted : Wanted) → Path start [] us ss' vs' → move ss' vs' t.kind t.at ≡ No wanted → Viable A D ok (us ++ t ∷ []) → ⊥
      stuck ok w us t ss' vs' wanted path e v =
          never ok w us t ss' vs' path v.0 v.1 (why t.kind wanted, t.at) (ap (λ m. gone m (λ needs. all_ok ok needs (t ∷ v.0)) t.kind t.at (λ ss vs. run ok z ss vs v.0)) e) v.2

      -- .. or no leave
      pub not_allowed : (ok : Leave) → Wider ok → (us : List Terminal) (t : Terminal) (ss' ss2 : Symbols) (vs' vs2 : Values) (needs : List Need) → Path start [] us ss' vs' → move ss' vs' t.kind t.at ≡ Go ss2 vs2 needs → (ws : List Terminal) → all_ok ok needs (t ∷ ws) ≡ false → (x : A) → D ok ((us ++ t ∷ []) ++ ws) x → ⊥
      not_allowed ok w us t ss' ss2 vs' vs2 needs path e ws denied x d =
          never ok w us t ss' vs' path ws x (why_not needs, t.at)
          (ap (λ m. gone m (λ needs. all_ok ok needs (t ∷ ws)) t.kind t.at (λ ss vs. run ok z ss vs ws)) e
          ∙ ap (λ b. if b then run ok z ss2 vs2 ws else Err (why_not needs, t.at)) denied) d

      pub too_deep : (us : List Terminal) (t : Terminal) (as' : List Terminal) (ss' ss2 : Symbols) (vs' vs2 : Values) (needs : List Need) → Path start [] us ss' vs' → move ss' vs' t.kind t.at ≡ Go ss2 vs2 needs → all_ok (limit n) needs as' ≡ false → Fine A D n (us ++ t ∷ []) → ⊥
      too_deep us t as' ss' ss2 vs' vs2 needs path e over v = not_allowed (within n (length v.0)) (within_is_wider (length v.0)) us t ss' ss2 vs' vs2 needs path e v.0 (shorter needs t v.0 as' over) v.1 v.2

      -- at the text's end
      pub not_at_end : (ts : List Terminal) (s : Symbol) (ss' : Symbols) (vs' : Values) → Path start [] ts (s ∷ ss') vs' → (x : A) → D any ts x → ⊥
      not_at_end ts s ss' vs' path x d =
          let a : run any z start [] (ts ++ []) ≡ run any z (s ∷ ss') vs' [] = path.reach any (loose_is_wider any any_loose) [] in
          let b : refused_as (Fault.Syntax, z) ≡ read_as (value x ∷ []) = sym a ∙ ap (run any z start []) (append-nil ts) ∙ reads.complete any z ts x d in
          cc

      -- what is read is derived
      pub read_is_derived : (ok : Leave) (ts : List Terminal) (ws : Values) → run ok z start [] ts ≡ Ok ws → (a : A) × (ws ≡ value a ∷ []) × D ok ts a
      read_is_derived ok ts ws h =
          let d = reads.holds ok ts (sound_run ok ts start [] ws h) in
          (d.0, one_value (sym h ∙ reads.complete ok z ts d.0 d.1), d.1)
