-- From what the calls below promise to what running a text comes to.
use Rattle.std.proofs.Common.{◌≡◌, ℕ, ◌+◌, ◌≤◌, List, length, Option, Result, Err, refl, subst}
use Rattle.std.specs.Prelude.{IsErrOf, IfErr, ◌↔◌}
use Rattle.std.specs.Io.KnownBytes.{Keeps, Consumes, IsAtEnd}
use Rattle.hipe_edge.specs.Bytes.{AppendsPrefix, TakesCount}
use Rattle.hipe_edge.specs.Counts.{Rises}
use Rattle.hipe_edge.specs.declared.reading.ReadAllFault.{ReadAllFault}
use Rattle.hipe_edge.specs.declared.reading.ReadAllFault.TheVariants as reads
use Rattle.core_ast.specs.declared.tree.Module.{Module}
use Rattle.hipe_terms.specs.declared.place.Place.{Place}
use Rattle.core_ast.specs.Trees as T
use Rattle.core_ast.specs.Trees.{module_of}
use Rattle.core_sum.specs.declared.sum.Sum.{Sum}
use Rattle.core_sum.specs.Sums.{value}
use Rattle.core_sum.specs.declared.sum.SumRefusal.{SumRefusal}
use Rattle.core_sum.specs.Form.{main, Exports, IsFirstUnbuilt, IsSumModule, IsSumRefusal}
use Rattle.amd64_machine.specs.declared.result.ResultFault.{ResultFault}
use Rattle.amd64_machine.specs.declared.result.ResultFault.TheVariants as results
use Rattle.sum_code.specs.Code.{image_for, EndsWith}
use Rattle.sum_run.specs.Run.{value_line}
use Rattle.hipe_base.specs.declared.limits.TheConstants.{TEXT_LIMIT}
use Rattle.hipe_stop.specs.declared.stop.Stop.{Stop}
use Rattle.hipe_top.specs.declared.arguments.Mode.{Mode}
use Rattle.hipe_top.specs.declared.arguments.Mode.TheVariants.{Check, Run}
use Rattle.hipe_top.specs.Answers.{too_long, not_read, not_good, good, not_exported, not_built, sum}
use Rattle.hipe_top.specs.Doing as D
use Rattle.hipe_top.specs.Doing.{RanSum, returned, WroteOk, wrote, wrote_prefix, IsRunStop, stop_of_result}
use Rattle.hipe_edge.specs.Streams.{Stream, stream}
use Rattle.hipe_top.specs.Outcome.{DidText, did, refused_as, DidSource, did_text, out_of_memory}
use Rattle.hipe_top.specs.Outcome as O
use Rattle.hipe_stop.specs.Stops.{stop_of_source, stop_of_reading}
use Rattle.hipe_stop.specs.Refusing.{IsStop}
use Rattle.hipe_stop.specs.Refusing as R
use Rattle.hipe_stop.proofs.Inputs.{keeps_same, read_whole, read_past}
use Rattle.hipe_top.specs.Texts.{IsGoodText}

-- ---- the run of a sum

-- what was written of the line where it couldn't be written whole
pub sum_not_written : (name : List ℕ) (e : Sum) (fault : ResultFault) (w w' : Option (List ℕ)) (f f' : ℕ) → AppendsPrefix w w' (value_line (value e))
    → (fault ≡ results.WriteFault → Rises f f' × EndsWith (image_for name e) (value e)) → (fault ≡ results.Memory → Keeps w w')
    → RanSum name e (stream w w' f f') (Err (stop_of_result fault))
sum_not_written name e results.WriteFault w w' f f' prefix rises kept = let r = rises refl in D.not_written r.1 r.0 prefix
sum_not_written name e results.Memory w w' f f' prefix rises kept = D.no_memory (kept refl)

-- ---- the source

-- the ends of reading without a text
pub text_not_read : (T : Type 0) (mode : Mode) (fault : ReadAllFault) (left left' w : Option (List ℕ)) (f f' g : ℕ)
    → TakesCount left left' (λ n. (n ≤ TEXT_LIMIT + 1) × ((n ≡ TEXT_LIMIT + 1) ↔ IsErrOf {T = T} (Err fault) reads.TooLong))
    → (IsErrOf {T = T} (Err fault) reads.ReadFault → Rises f f') → DidSource mode (stream left left' f f') (stream w w g g) (Err (stop_of_source fault))
text_not_read T mode reads.ReadFault left left' w f f' g taken rises = O.not_read (rises refl) (keeps_same w)
text_not_read T mode reads.TooLong left left' w f f' g taken rises =
    let past = read_past left left' f f' taken.0 taken.1 (taken.2.1.1 refl) in
    did_text past.0 past.1 past.2 (refused_as Stop.TooLong (too_long past.3) (keeps_same w))
text_not_read T mode reads.Memory left left' w f f' g taken rises = out_of_memory (keeps_same w)

-- a text that was answered
pub text_did : {result : Result (Unit {0}) Stop} (mode : Mode) (out : Stream) (bytes : List ℕ) (left left' : Option (List ℕ)) (f f' : ℕ)
    → Consumes left left' bytes → IsAtEnd left' → length bytes ≤ TEXT_LIMIT → DidText mode bytes out result → DidSource mode (stream left left' f f') out result
text_did mode out bytes left left' f f' c end le text =
    let whole = read_whole left left' f f' bytes c end le in
    did_text bytes whole.0 whole.1 text

-- ---- good modules

-- a text without a good module
pub stopped : (mode : Mode) (bytes : List ℕ) (w : Option (List ℕ)) (f : ℕ) (stop : Stop) → length bytes ≤ TEXT_LIMIT → IsStop bytes stop → DidText mode bytes (stream w w f f) (Err stop)
stopped mode bytes w f _ short (R.not_read why none is) = refused_as (stop_of_reading why) (not_read why short none is) (keeps_same w)
stopped mode bytes w f _ short (R.not_good m rule p reads first) = refused_as _ (not_good m rule p short reads first) (keeps_same w)
stopped mode bytes w f _ short R.out_of_memory = O.no_memory (keeps_same w)

-- a good module without a sum
pub run_stopped : (bytes : List ℕ) (m : Module) (w : Option (List ℕ)) (f : ℕ) (stop : Stop) → IsGoodText bytes m → IsRunStop bytes m stop → DidText Run bytes (stream w w f f) (Err stop)
run_stopped bytes m w f _ g (D.not_exported p none at) = refused_as _ (not_exported m p g none at) (keeps_same w)
run_stopped bytes m w f _ g (D.not_built p exported first) = refused_as _ (not_built m p g exported first) (keeps_same w)
run_stopped bytes m w f _ g D.memory_ran_out = O.no_memory (keeps_same w)

-- a good module whose sum was run
pub sum_did : {result : Result (Unit {0}) Stop} (bytes : List ℕ) (m : Module) (e : Sum) (out : Stream) → IsGoodText bytes m → IsSumModule (module_of m) e → RanSum m.name e out result → DidText Run bytes out result
sum_did bytes m e out g is (returned ends gained) = did (value_line (value e)) (sum m e g is ends) gained
sum_did bytes m e out g is (D.not_written ends faulted prefix) = O.not_written (value_line (value e)) (sum m e g is ends) faulted prefix
sum_did bytes m e out g is (D.no_memory untouched) = O.no_memory untouched

-- a good module of which that was written
pub check_did : {result : Result (Unit {0}) Stop} (bytes : List ℕ) (m : Module) (out : Stream) → IsGoodText bytes m → WroteOk out result → DidText Check bytes out result
check_did bytes m out g (wrote gained) = did _ (good m g) gained
check_did bytes m out g (wrote_prefix faulted prefix) = O.not_written _ (good m g) faulted prefix

-- why a module has no sum
pub unexported : (m : T.Module) (why : SumRefusal) (r : Result Sum SumRefusal) → r ≡ Err why → why ≡ SumRefusal.NotExported → IfErr r (λ refusal. IsSumRefusal m refusal) → Exports m main → ⊥
unexported m why r is same h = subst (IsSumRefusal m) same (subst (λ x. IfErr x (λ refusal. IsSumRefusal m refusal)) is h)

pub unbuilt : (m : T.Module) (why : SumRefusal) (p : Place) (r : Result Sum SumRefusal) → r ≡ Err why → why ≡ SumRefusal.NotYet p → IfErr r (λ refusal. IsSumRefusal m refusal) → Exports m main × IsFirstUnbuilt m p
unbuilt m why p r is same h = subst (IsSumRefusal m) same (subst (λ x. IfErr x (λ refusal. IsSumRefusal m refusal)) is h)
