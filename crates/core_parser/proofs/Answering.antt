-- What the machine answers is the answer.
use Rattle.std.proofs.Common.{◌≡◌, ℕ, List, [], ◌∷◌, ◌++◌, Bool, true, false, not, if◌then◌else◌, Ok, Err, refl, ap, sym, ◌∙◌, subst}
use Rattle.hipe_terms.specs.declared.place.Place.{Place}
use Rattle.hipe_terms.specs.declared.constant.Call.{Call}
use Rattle.core_ast.specs.declared.tree.Module.{Module}
use Rattle.core_grammar.specs.declared.fault.Fault.{Fault}
use Rattle.core_grammar.specs.declared.terminal.Kind.{Kind}
use Rattle.core_grammar.specs.declared.terminal.Mark.{Mark}
use Rattle.core_grammar.specs.declared.terminal.Terminal.{Terminal}
use Rattle.core_grammar.specs.Leave.{Need, Leave, token}
use Rattle.core_grammar.specs.Language.{Derivation, Derives, DerivesCall, limit, any, any_operand, Viable, Fine, is_foreign, IsOutside, foreign_part, operand_of_call, Stops, Refused, at_terminal, at_text_end, IsAnswer, IsModuleAnswer, IsCallAnswer}
use Rattle.core_grammar.specs.Laws.{SomeModuleAnswer, SomeCallAnswer}
use Rattle.core_grammar.specs.Grammar as G
use Rattle.core_parser.specs.declared.moved.Wanted.{Wanted}
use Rattle.core_parser.specs.declared.value.Value.{Value}
use Rattle.core_parser.specs.Values.{Values}
use Rattle.core_parser.specs.Machine.{Symbols, Move, Go, No, move, wanted_by, why, outside_of, why_not, has_operand, all_ok, run, Answer, module_start, call_start, tree_read, top_module, top_call, module_read, call_read}
use Rattle.core_parser.proofs.Meaning.{Holds, done, on, module', bare_atom, wants, make, arguments_first}
use Rattle.core_parser.proofs.Modules.{derived_runs, derived_call_runs}
use Rattle.core_parser.proofs.Ends.{Foreign, float, receive, hash, tilde, foreign_kind, foreign_stops, operand_free, integer_is_free}
use Rattle.core_parser.proofs.Refusing as R
use Rattle.core_parser.proofs.Refusing.{Reads, any_loose, any_operand_loose, operand_is_not_any, others_are_any, all_are_any_operand, loose_is_wider, Path, Found, found_none, found_not_allowed, found_end, find}

is_free : (needs : List Need) → not (has_operand needs) ≡ true → has_operand needs ≡ false
is_free needs h = tested (has_operand needs) h
  where
    tested : (b : Bool) → not b ≡ true → b ≡ false
    tested true h = cc
    tested false h = refl

-- in a language that the machine reads from a start
module _ (z : Place) (n : ℕ) (A : Type 0) (D : Derivation A) (value : A → Value) (start : Symbols) (reads : Reads A D value start) where
  fine : (us : List Terminal) (ss' : Symbols) (vs' : Values) → Path z n start [] us ss' vs' → Fine A D n us
  fine = R.fine_of z n A D value start reads

  stuck : (ok : Leave) → R.Loose ok → (us : List Terminal) (t : Terminal) (ss' : Symbols) (vs' : Values) (wanted : Wanted) → Path z n start [] us ss' vs' → move ss' vs' t.kind t.at ≡ No wanted → Viable A D ok (us ++ t ∷ []) → ⊥
  stuck ok l = R.stuck z n A D value start reads ok (loose_is_wider z n ok l)

  -- where an integer could stand
  integer_goes_on : (us : List Terminal) (p : Place) (ss' : Symbols) (vs' : Values) → Path z n start [] us ss' vs' → wanted_by (move ss' vs' (Kind.Natural 0) p) ≡ Wanted.Integer → Viable A D any (us ++ token (Kind.Natural 0) p ∷ [])
  integer_goes_on us p ss' vs' path g = by_move (move ss' vs' (Kind.Natural 0) p) refl g (integer_is_free ss' vs' p)
    where
      by_move : (m : Move) → move ss' vs' (Kind.Natural 0) p ≡ m → wanted_by m ≡ Wanted.Integer → operand_free m ≡ true → Viable A D any (us ++ token (Kind.Natural 0) p ∷ [])
      by_move (No wanted) e g f = cc
      by_move (Go ss2 vs2 needs) e g f = R.goes_on z n A D value start reads any any_loose us (token (Kind.Natural 0) p) ss' ss2 vs' vs2 needs path e (λ xs. others_are_any needs xs (is_free needs f))

  integer_stuck : (us : List Terminal) (p : Place) (ss' : Symbols) (vs' : Values) → Path z n start [] us ss' vs' → wanted_by (move ss' vs' (Kind.Natural 0) p) ≡ Wanted.Other → Viable A D any (us ++ token (Kind.Natural 0) p ∷ []) → ⊥
  integer_stuck us p ss' vs' path g = by_move (move ss' vs' (Kind.Natural 0) p) refl g
    where
      by_move : (m : Move) → move ss' vs' (Kind.Natural 0) p ≡ m → wanted_by m ≡ Wanted.Other → Viable A D any (us ++ token (Kind.Natural 0) p ∷ []) → ⊥
      by_move (No wanted) e g v = stuck any any_loose us (token (Kind.Natural 0) p) ss' vs' wanted path e v
      by_move (Go ss2 vs2 needs) e g v = cc

  -- a terminal of the profile that has no move
  inside : (us : List Terminal) (t : Terminal) (ss' : Symbols) (vs' : Values) (wanted : Wanted) → Path z n start [] us ss' vs' → move ss' vs' t.kind t.at ≡ No wanted → is_foreign t.kind ≡ false → Stops A D n us t Fault.Syntax
  inside us t ss' vs' wanted path e f = (stuck any any_loose us t ss' vs' wanted path e, outside)
    where
      outside : IsOutside A D us t → ⊥
      outside (foreign_part h v) = let a : true ≡ false = sym h ∙ f in cc
      outside (operand_of_call before v) = stuck any_operand any_operand_loose us t ss' vs' wanted path e v

  -- a foreign terminal that has no move
  foreign : (u : Foreign) → is_foreign (foreign_kind u) ≡ true → (us : List Terminal) (p : Place) (ss' : Symbols) (vs' : Values) (wanted : Wanted) → Path z n start [] us ss' vs' → move ss' vs' (foreign_kind u) p ≡ No wanted → Stops A D n us (token (foreign_kind u) p) (outside_of wanted)
  foreign u is us p ss' vs' wanted path e = by_integer wanted (foreign_stops u ss' vs' p wanted e) (stuck any any_loose us (token (foreign_kind u) p) ss' vs' wanted path e) (stuck any_operand any_operand_loose us (token (foreign_kind u) p) ss' vs' wanted path e)
    where
      outside : wanted_by (move ss' vs' (Kind.Natural 0) p) ≡ Wanted.Other → (Viable A D any_operand (us ++ token (foreign_kind u) p ∷ []) → ⊥) → IsOutside A D us (token (foreign_kind u) p) → ⊥
      outside g s (foreign_part h v) = integer_stuck us p ss' vs' path g v
      outside g s (operand_of_call before v) = s v

      by_integer : (wanted : Wanted) → wanted_by (move ss' vs' (Kind.Natural 0) p) ≡ wanted → (Viable A D any (us ++ token (foreign_kind u) p ∷ []) → ⊥) → (Viable A D any_operand (us ++ token (foreign_kind u) p ∷ []) → ⊥) → Stops A D n us (token (foreign_kind u) p) (outside_of wanted)
      by_integer Wanted.Integer g s s2 = (s, foreign_part is (integer_goes_on us p ss' vs' path g))
      by_integer Wanted.Other g s s2 = (s, outside g s2)

  pub stops : (us : List Terminal) (k : Kind) (p : Place) (ss' : Symbols) (vs' : Values) (wanted : Wanted) → Path z n start [] us ss' vs' → move ss' vs' k p ≡ No wanted → Stops A D n us (token k p) (why k wanted)
  stops us Kind.Float p ss' vs' wanted path e = foreign float refl us p ss' vs' wanted path e
  stops us (Kind.Mark Mark.Receive) p ss' vs' wanted path e = foreign receive refl us p ss' vs' wanted path e
  stops us (Kind.Mark Mark.Hash) p ss' vs' wanted path e = foreign hash refl us p ss' vs' wanted path e
  stops us (Kind.Mark Mark.Tilde) p ss' vs' wanted path e = foreign tilde refl us p ss' vs' wanted path e
  stops us (Kind.Mark m) p ss' vs' wanted path e = inside us (token (Kind.Mark m) p) ss' vs' wanted path e refl
  stops us (Kind.Atom a) p ss' vs' wanted path e = inside us (token (Kind.Atom a) p) ss' vs' wanted path e refl
  stops us (Kind.Variable x) p ss' vs' wanted path e = inside us (token (Kind.Variable x) p) ss' vs' wanted path e refl
  stops us (Kind.Natural i) p ss' vs' wanted path e = inside us (token (Kind.Natural i) p) ss' vs' wanted path e refl
  stops us (Kind.Integer i) p ss' vs' wanted path e = inside us (token (Kind.Integer i) p) ss' vs' wanted path e refl
  stops us (Kind.Text s) p ss' vs' wanted path e = inside us (token (Kind.Text s) p) ss' vs' wanted path e refl

  -- a terminal that has a move and no leave
  pub no_leave : (us : List Terminal) (t : Terminal) (ws : List Terminal) (ss' ss2 : Symbols) (vs' vs2 : Values) (needs : List Need) → Path z n start [] us ss' vs' → move ss' vs' t.kind t.at ≡ Go ss2 vs2 needs → all_ok (limit n) needs (t ∷ ws) ≡ false → Stops A D n us t (why_not needs)
  no_leave us t ws ss' ss2 vs' vs2 needs path e over = tested (has_operand needs) refl
    where
      tested : (b : Bool) → has_operand needs ≡ b → Stops A D n us t (if b then Fault.NotInProfile else Fault.TooDeep)
      tested true h = (
        (λ v. R.not_allowed z n A D value start reads any (loose_is_wider z n any any_loose) us t ss' ss2 vs' vs2 needs path e v.0 (operand_is_not_any needs (t ∷ v.0) h) v.1 v.2),
        operand_of_call (R.viable_of z n A D value start reads us ss' vs' path) (R.goes_on z n A D value start reads any_operand any_operand_loose us t ss' ss2 vs' vs2 needs path e (all_are_any_operand needs)),
      )
      tested false h = (
        R.goes_on z n A D value start reads any any_loose us t ss' ss2 vs' vs2 needs path e (λ xs. others_are_any needs xs h),
        R.too_deep z n A D value start reads us t (t ∷ ws) ss' ss2 vs' vs2 needs path e over,
      )

  pub refused_of : (ts : List Terminal) (f : Fault) (p : Place) → Found z n start [] ts f p → Refused A D n z ts f p
  refused_of ts f p (found_none us t ws ss' vs' wanted is path none) = at_terminal us t ws is (fine us ss' vs' path) (stops us t.kind t.at ss' vs' wanted path none)
  refused_of ts f p (found_not_allowed us t ws ss' ss2 vs' vs2 needs is path e over) = at_terminal us t ws is (fine us ss' vs' path) (no_leave us t ws ss' ss2 vs' vs2 needs path e over)
  refused_of ts f p (found_end s ss' vs' path) = at_text_end (fine ts (s ∷ ss') vs' path) (R.not_at_end z n A D value start reads ts s ss' vs' path)

  answered : (tree : Values → A) → ((a : A) → tree (value a ∷ []) ≡ a) → (ts : List Terminal) (r : Answer) → run (limit n) z start [] ts ≡ r → IsAnswer A D n z ts (tree_read A tree r)
  answered tree is ts (Ok vs) h =
      let d = R.read_is_derived z n A D value start reads (limit n) ts vs h in
      subst (D (limit n) ts) (sym (ap tree d.1 ∙ is d.0)) d.2
  answered tree is ts (Err x) h = refused_of ts x.0 x.1 (find z n ts start [] x h)

-- the machine reads modules

holds_module : (ok : Leave) (ts : List Terminal) → Holds ok module_start ts → (m : Module) × Derives ok ts m
holds_module ok ts (on (module' {m = m} d) done) = (m, d)

pub of_modules : Reads Module Derives Value.Module module_start
of_modules = record { complete = derived_runs; holds = holds_module }

pub reads_modules : (n : ℕ) (z : Place) (ts : List Terminal) → IsModuleAnswer n z ts (module_read (run (limit n) z module_start [] ts))
reads_modules n z ts = answered z n Module Derives Value.Module module_start of_modules top_module (λ m. refl) ts (run (limit n) z module_start [] ts) refl

pub some_module_answer : SomeModuleAnswer
some_module_answer n z ts = (module_read (run (limit n) z module_start [] ts), reads_modules n z ts)

-- and calls

holds_call : (ok : Leave) (ts : List Terminal) → Holds ok call_start ts → (c : Call) × DerivesCall ok ts c
holds_call ok ts (on (bare_atom {a = a} (G.atom p)) (on (wants _ q) (on make (on (arguments_first {cs = cs} r d) done)))) = (record { name = a; args = cs }, G.call_of a p q r d)

pub of_calls : Reads Call DerivesCall Value.Call call_start
of_calls = record { complete = derived_call_runs; holds = holds_call }

pub reads_calls : (n : ℕ) (z : Place) (ts : List Terminal) → IsCallAnswer n z ts (call_read (run (limit n) z call_start [] ts))
reads_calls n z ts = answered z n Call DerivesCall Value.Call call_start of_calls top_call (λ c. refl) ts (run (limit n) z call_start [] ts) refl

pub some_call_answer : SomeCallAnswer
some_call_answer n z ts = (call_read (run (limit n) z call_start [] ts), reads_calls n z ts)

pub ruleset answering = (reads_modules, reads_calls)
