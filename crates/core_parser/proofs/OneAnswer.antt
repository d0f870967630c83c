-- A list of terminals has one answer: what is refused is what the machine refuses.
use Rattle.std.proofs.Common.{◌≡◌, ℕ, ◌+◌, ◌<◌, List, [], ◌∷◌, ◌++◌, length, Bool, true, false, ◌&&◌, ◌||◌, nat_le, if◌then◌else◌, Result, Ok, Err, refl, ap, sym, ◌∙◌, subst, append-nil, arith}
use Rattle.std.proofs.lemmas.Bool.Decides.{nat_tests}
use Rattle.std.proofs.lemmas.List.{length-append}
use Rattle.hipe_base.specs.declared.limits.TheConstants.{ARITY_LIMIT}
use Rattle.hipe_terms.specs.declared.place.Place.{Place}
use Rattle.hipe_terms.specs.declared.constant.Call.{Call}
use Rattle.core_ast.specs.declared.tree.Module.{Module}
use Rattle.core_grammar.specs.declared.fault.Fault.{Fault}
use Rattle.core_grammar.specs.declared.terminal.Terminal.{Terminal}
use Rattle.core_grammar.specs.Leave.{Need, part, variable_operand, argument}
use Rattle.core_grammar.specs.Language.{Derivation, Derives, DerivesCall, limit, any, within, Viable, Fine, Stops, Refused, at_terminal, at_text_end}
use Rattle.core_grammar.specs.Laws.{OneTree, RefusedDerivesNone, RefusedDerivesNoModule, RefusedDerivesNoCall, OneAnswer, OneModuleAnswer, OneCallAnswer}
use Rattle.core_parser.specs.declared.value.Value.{Value}
use Rattle.core_parser.specs.Values.{Values}
use Rattle.core_parser.specs.Machine.{Symbols, Move, Go, No, move, gone, why, why_not, all_ok, run, module_start, call_start}
use Rattle.core_parser.specs.Laws.{ReadsDerived, DerivesRead, StopsAtRefused, RefusedWhereStops, ReadsDerivedModules, DerivesReadModules, StopsAtRefusedModules, RefusedModulesWhereStops, ReadsDerivedCalls, DerivesReadCalls, StopsAtRefusedCalls, RefusedCallsWhereStops}
use Rattle.core_parser.proofs.Meaning.{Holds}
use Rattle.core_parser.proofs.Backs.{and_parts}
use Rattle.core_parser.proofs.Modules.{one_module, one_call}
use Rattle.core_parser.proofs.Refusing as R
use Rattle.core_parser.proofs.Refusing.{Reads, find, read_as, refused_as, any_loose, loose_is_wider, Wider, Path, no_path, longer_path}
use Rattle.core_parser.proofs.Answering as N
use Rattle.core_parser.proofs.Answering.{of_modules, of_calls}

-- a terminal stops for one reason
one_reason : (A : Type 0) (D : Derivation A) (n : ℕ) (us : List Terminal) (t : Terminal) (f g : Fault) → Stops A D n us t f → Stops A D n us t g → f ≡ g
one_reason A D n us t Fault.Syntax Fault.Syntax a b = refl
one_reason A D n us t Fault.Syntax Fault.NotInProfile a b = absurd (a.1 b.1)
one_reason A D n us t Fault.Syntax Fault.TooDeep a b = absurd (a.0 b.0)
one_reason A D n us t Fault.NotInProfile Fault.Syntax a b = absurd (b.1 a.1)
one_reason A D n us t Fault.NotInProfile Fault.NotInProfile a b = refl
one_reason A D n us t Fault.NotInProfile Fault.TooDeep a b = absurd (a.0 b.0)
one_reason A D n us t Fault.TooDeep Fault.Syntax a b = absurd (b.0 a.0)
one_reason A D n us t Fault.TooDeep Fault.NotInProfile a b = absurd (b.0 a.0)
one_reason A D n us t Fault.TooDeep Fault.TooDeep a b = refl

or_false : (a b : Bool) → b ≡ false → (a || b) ≡ true → a ≡ true
or_false true b h o = refl
or_false false true h o = cc
or_false false false h o = o

module _ (z : Place) (n : ℕ) where
  limit_is_wider : Wider z n (limit n)
  limit_is_wider = record { parts = λ k us h. h; arguments = λ i us h. h }

  -- what begins before the last terminals is within the limit
  is_within : (needs : List Need) (bs : List Terminal) (m : ℕ) → m < length bs → all_ok (within n m) needs bs ≡ true → all_ok (limit n) needs bs ≡ true
  is_within [] bs m lt h = refl
  is_within (variable_operand ∷ needs) bs m lt h = cc
  is_within (part k ∷ needs) bs m lt h =
      let l : nat_le (length bs) m ≡ false = grind (arith, nat_tests) in
      let p = and_parts (within n m) (nat_le k n || nat_le (length bs) m) (all_ok (within n m) needs bs) h in
      ap (λ b. b && all_ok (limit n) needs bs) (or_false (nat_le k n) (nat_le (length bs) m) l p.0) ∙ is_within needs bs m lt p.1
  is_within (argument i ∷ needs) bs m lt h =
      let l : nat_le (length bs) m ≡ false = grind (arith, nat_tests) in
      let p = and_parts (within n m) (nat_le i ARITY_LIMIT || nat_le (length bs) m) (all_ok (within n m) needs bs) h in
      ap (λ b. b && all_ok (limit n) needs bs) (or_false (nat_le i ARITY_LIMIT) (nat_le (length bs) m) l p.0) ∙ is_within needs bs m lt p.1

  is_longer : (us xs : List Terminal) (t : Terminal) → length xs < length (t ∷ us ++ xs)
  is_longer us xs t = let a : length (us ++ xs) ≡ length us + length xs = length-append us xs in omega arith

  abbrev Reached : Symbols → Values → List Terminal → Type 0
  Reached ss vs us = (ss' : Symbols) × (vs' : Values) × Path z n ss vs us ss' vs'

  -- a run that goes on over terminals, with no part above the limit that begins in them, reaches a state
  reached : (us xs : List Terminal) (ss : Symbols) (vs ws : Values) → run (within n (length xs)) z ss vs (us ++ xs) ≡ Ok ws → Reached ss vs us
  reached [] xs ss vs ws h = (ss, vs, no_path z n ss vs)
  reached (t ∷ us) xs ss vs ws h = by_move (λ ss' vs'. reached us xs ss' vs' ws) (move ss vs t.kind t.at) refl h
    where
      by_test : ((ss' : Symbols) (vs' : Values) → run (within n (length xs)) z ss' vs' (us ++ xs) ≡ Ok ws → Reached ss' vs' us) → (ss' : Symbols) (vs' : Values) (needs : List Need) → move ss vs t.kind t.at ≡ Go ss' vs' needs → (a : Bool) → all_ok (within n (length xs)) needs (t ∷ us ++ xs) ≡ a → (if a then run (within n (length xs)) z ss' vs' (us ++ xs) else Err (why_not needs, t.at)) ≡ Ok ws → Reached ss vs (t ∷ us)
      by_test go ss' vs' needs e true a h =
          let r = go ss' vs' h in
          (r.0, r.1, longer_path z n t (t ∷ us ++ xs) us ss ss' r.0 vs vs' r.1 needs e (is_within needs (t ∷ us ++ xs) (length xs) (is_longer us xs t) a) r.2)
      by_test go ss' vs' needs e false a h = cc

      by_move : ((ss' : Symbols) (vs' : Values) → run (within n (length xs)) z ss' vs' (us ++ xs) ≡ Ok ws → Reached ss' vs' us) → (m : Move) → move ss vs t.kind t.at ≡ m → gone m (λ needs. all_ok (within n (length xs)) needs (t ∷ us ++ xs)) t.kind t.at (λ ss vs. run (within n (length xs)) z ss vs (us ++ xs)) ≡ Ok ws → Reached ss vs (t ∷ us)
      by_move go (No wanted) e h = cc
      by_move go (Go ss' vs' needs) e h = by_test go ss' vs' needs e (all_ok (within n (length xs)) needs (t ∷ us ++ xs)) refl h

  -- one path after another
  joined : (us : List Terminal) (t : Terminal) (ws : List Terminal) (ss ss' ss2 : Symbols) (vs vs' vs2 : Values) (needs : List Need) → Path z n ss vs us ss' vs' → move ss' vs' t.kind t.at ≡ Go ss2 vs2 needs → all_ok (limit n) needs (t ∷ ws) ≡ true → Path z n ss vs (us ++ t ∷ []) ss2 vs2
  joined us t ws ss ss' ss2 vs vs' vs2 needs p e a =
      let q = longer_path z n t (t ∷ ws) [] ss' ss2 ss2 vs' vs2 vs2 needs e a (no_path z n ss2 vs2) in
      record {
        reach = λ ok w xs. ap (run ok z ss vs) (R.regroup us t xs) ∙ p.reach ok w (t ∷ xs) ∙ q.reach ok w xs;
        back = λ ok w xs h. subst (λ (ys : List Terminal). Holds ok ss ys) (sym (R.regroup us t xs)) (p.back ok w (t ∷ xs) (q.back ok w xs h));
      }

-- in a language that the machine reads from a start
module _ (z : Place) (n : ℕ) (A : Type 0) (D : Derivation A) (value : A → Value) (start : Symbols) (reads : Reads A D value start) where
  refused_there : (us : List Terminal) (t : Terminal) (ws : List Terminal) (ss' : Symbols) (vs' : Values) (f : Fault) → Path z n start [] us ss' vs' → Stops A D n us t f → (m : Move) → move ss' vs' t.kind t.at ≡ m → gone m (λ needs. all_ok (limit n) needs (t ∷ ws)) t.kind t.at (λ ss vs. run (limit n) z ss vs ws) ≡ refused_as (f, t.at)
  refused_there us t ws ss' vs' f path s (No wanted) e = ap (λ g. refused_as (g, t.at)) (one_reason A D n us t (why t.kind wanted) f (N.stops z n A D value start reads us t.kind t.at ss' vs' wanted path e) s)
  refused_there us t ws ss' vs' f path s (Go ss2 vs2 needs) e = tested (all_ok (limit n) needs (t ∷ ws)) refl
    where
      impossible : (f : Fault) → Stops A D n us t f → Viable A D any (us ++ t ∷ []) → Fine A D n (us ++ t ∷ []) → ⊥
      impossible Fault.Syntax s v fine = s.0 v
      impossible Fault.NotInProfile s v fine = s.0 v
      impossible Fault.TooDeep s v fine = s.1 fine

      tested : (a : Bool) → all_ok (limit n) needs (t ∷ ws) ≡ a → (if a then run (limit n) z ss2 vs2 ws else refused_as (why_not needs, t.at)) ≡ refused_as (f, t.at)
      tested false a = ap (λ g. refused_as (g, t.at)) (one_reason A D n us t (why_not needs) f (N.no_leave z n A D value start reads us t ws ss' ss2 vs' vs2 needs path e a) s)
      tested true a = absurd (impossible f s
          (R.goes_on z n A D value start reads any any_loose us t ss' ss2 vs' vs2 needs path e (λ xs. R.wider_all z n any (loose_is_wider z n any any_loose) needs (t ∷ ws) xs a))
          (R.fine_of z n A D value start reads (us ++ t ∷ []) ss2 vs2 (joined z n us t ws start ss' ss2 [] vs' vs2 needs path e a)))

  -- what is refused is refused by the machine
  pub refused_runs : (ts : List Terminal) (f : Fault) (p : Place) → Refused A D n z ts f p → run (limit n) z start [] ts ≡ refused_as (f, p)
  refused_runs ts f p (at_terminal us t ws is fine s) =
      let r = reached z n us fine.0 start [] (value fine.1 ∷ []) (reads.complete (within n (length fine.0)) z (us ++ fine.0) fine.1 fine.2) in
      ap (run (limit n) z start []) is ∙ r.2.reach (limit n) (limit_is_wider z n) (t ∷ ws) ∙ refused_there us t ws r.0 r.1 f r.2 s (move r.0 r.1 t.kind t.at) refl
  refused_runs ts f p (at_text_end fine no_tree) =
      let r = reached z n ts fine.0 start [] (value fine.1 ∷ []) (reads.complete (within n (length fine.0)) z (ts ++ fine.0) fine.1 fine.2) in
      ended r.0 r.1 r.2
    where
      ended : (ss' : Symbols) (vs' : Values) → Path z n start [] ts ss' vs' → run (limit n) z start [] ts ≡ refused_as (Fault.Syntax, z)
      ended [] vs' path =
          let a : run any z start [] ts ≡ Ok vs' = ap (run any z start []) (sym (append-nil ts)) ∙ path.reach any (loose_is_wider z n any any_loose) [] in
          let d = R.read_is_derived z n A D value start reads any ts vs' a in
          absurd (no_tree d.0 d.2)
      ended (s ∷ ss') vs' path = ap (run (limit n) z start []) (sym (append-nil ts)) ∙ path.reach (limit n) (limit_is_wider z n) []

abbrev some_tree : {A : Type 0} → A → Result A (Fault × Place)
some_tree a = Ok a

abbrev no_tree : {A : Type 0} → Fault × Place → Result A (Fault × Place)
no_tree x = Err x

same_refusal : {x y : Fault × Place} → refused_as x ≡ refused_as y → x ≡ y
same_refusal h = cc

module _ (A : Type 0) (D : Derivation A) (value : A → Value) (start : Symbols) (reads : Reads A D value start) where
  -- what is refused is derived as no tree: the machine would read it, too
  refused_derives_none : RefusedDerivesNone A D
  refused_derives_none n z ts f p refused x d =
      let a : refused_as (f, p) ≡ read_as (value x ∷ []) = sym (refused_runs z n A D value start reads ts f p refused) ∙ reads.complete (limit n) z ts x d in
      cc

  one_answer : OneTree A D → OneAnswer A D
  one_answer one n z ts (Ok m) (Ok o) a b = ap some_tree (one (limit n) ts m o a b)
  one_answer one n z ts (Ok m) (Err (f, p)) a b = absurd (refused_derives_none n z ts f p b m a)
  one_answer one n z ts (Err (f, p)) (Ok o) a b = absurd (refused_derives_none n z ts f p a o b)
  one_answer one n z ts (Err (f, p)) (Err (g, q)) a b = ap no_tree (same_refusal (sym (refused_runs z n A D value start reads ts f p a) ∙ refused_runs z n A D value start reads ts g q b))

  -- the machine reads what is derived and nothing else, and stops where the grammar refuses and nowhere else

  reads_derived : ReadsDerived A D start value
  reads_derived = reads.complete

  derives_read : DerivesRead A D start value
  derives_read ok z ts vs h = R.read_is_derived z 0 A D value start reads ok ts vs h

  stops_at_refused : StopsAtRefused A D start
  stops_at_refused n z ts f p h = refused_runs z n A D value start reads ts f p h

  refused_where_stops : RefusedWhereStops A D start
  refused_where_stops n z ts f p h = N.refused_of z n A D value start reads ts f p (find z n ts start [] (f, p) h)

-- modules

pub refused_derives_no_module : RefusedDerivesNoModule
refused_derives_no_module = refused_derives_none Module Derives Value.Module module_start of_modules

pub one_module_answer : OneModuleAnswer
one_module_answer = one_answer Module Derives Value.Module module_start of_modules one_module

pub reads_derived_modules : ReadsDerivedModules
reads_derived_modules = reads_derived Module Derives Value.Module module_start of_modules

pub derives_read_modules : DerivesReadModules
derives_read_modules = derives_read Module Derives Value.Module module_start of_modules

pub stops_at_refused_modules : StopsAtRefusedModules
stops_at_refused_modules = stops_at_refused Module Derives Value.Module module_start of_modules

pub refused_modules_where_stops : RefusedModulesWhereStops
refused_modules_where_stops = refused_where_stops Module Derives Value.Module module_start of_modules

-- calls

pub refused_derives_no_call : RefusedDerivesNoCall
refused_derives_no_call = refused_derives_none Call DerivesCall Value.Call call_start of_calls

pub one_call_answer : OneCallAnswer
one_call_answer = one_answer Call DerivesCall Value.Call call_start of_calls one_call

pub reads_derived_calls : ReadsDerivedCalls
reads_derived_calls = reads_derived Call DerivesCall Value.Call call_start of_calls

pub derives_read_calls : DerivesReadCalls
derives_read_calls = derives_read Call DerivesCall Value.Call call_start of_calls

pub stops_at_refused_calls : StopsAtRefusedCalls
stops_at_refused_calls = stops_at_refused Call DerivesCall Value.Call call_start of_calls

pub refused_calls_where_stops : RefusedCallsWhereStops
refused_calls_where_stops = refused_where_stops Call DerivesCall Value.Call call_start of_calls
