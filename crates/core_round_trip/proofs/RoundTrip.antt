-- What is printed reads back.
use Rattle.std.proofs.Common.{◌≡◌, ℕ, List, true, Result, Ok, Err, IfOk, IfErr, refl, ◌∙◌, subst}
use Rattle.core_text.specs.Places.{start}
use Rattle.core_token.specs.declared.token.Token.{Token}
use Rattle.core_token.specs.Text.{AreTokensOf}
use Rattle.core_ast.specs.declared.tree.Module.{Module}
use Rattle.core_ast.specs.Trees.{module_of}
use Rattle.core_ast.specs.WellFormed.{well_formed_definitions, well_formed_attributes, IsWellFormed}
use Rattle.hipe_terms.proofs.Parts.{and_second}
use Rattle.core_grammar.specs.Language.{limit, Derives}
use Rattle.core_grammar.proofs.WellFormed.{derived_are_well_formed}
use Rattle.core_print.specs.Printed.{printed}
use Rattle.hipe_base.specs.declared.limits.TheConstants.{LEVEL_LIMIT}
use Rattle.core_reader.specs.declared.refusal.ReadRefusal.{ReadRefusal}
use Rattle.core_ast.specs.SameTree.{SameTree}
use Rattle.core_reader.specs.Terminals.{terminals_of}
use Rattle.core_reader.specs.Language.{Answers, Only, Reads, ReadsNone}
use Rattle.core_round_trip.specs.Laws.{IsOfText, ReadsBack, PrintedReadsBack, WithinLimitsReadsBack}
use Rattle.core_round_trip.specs.Fits.{ModuleFits}
use Rattle.core_round_trip.proofs.Placeless.{same_printed, same_formed}
use Rattle.core_round_trip.proofs.Derived.{module_fits}
use Rattle.core_round_trip.proofs.ModuleReading.{module_reading}
use Rattle.core_round_trip.proofs.PrintedKinds.{printed_kinds}
use Rattle.core_round_trip.proofs.GoodTokens.{tokens_good, goods_in_range}

attributes_well_formed : (m : Module) → IsWellFormed (module_of m) → well_formed_attributes m.attributes ≡ true
attributes_well_formed m h = and_second (well_formed_definitions (module_of m).definitions) (well_formed_attributes m.attributes) h

pub fits_back : WithinLimitsReadsBack
fits_back m (good, fits) =
    let text = printed (module_of m) in
    let h = printed_kinds LEVEL_LIMIT (module_of m) fits in
    let t = h.tokens text 0 start refl in
    let r = module_reading LEVEL_LIMIT (module_of m) (terminals_of text t.0) good fits t.2 in
    (r.0, (t.0, (h.utf8, t.1), r.1), r.2)

of_text : (s : List ℕ) (m : Module) (ts : List Token) → AreTokensOf s ts → Derives (limit LEVEL_LIMIT) (terminals_of s ts) m → IsWellFormed (module_of m) × ModuleFits LEVEL_LIMIT (module_of m)
of_text s m ts t d =
    let good = tokens_good s ts t in
    (derived_are_well_formed (limit LEVEL_LIMIT) (terminals_of s ts) m (goods_in_range (terminals_of s ts) good) d, module_fits LEVEL_LIMIT m (terminals_of s ts) d good)

read_back : (s : List ℕ) (m : Module) → Reads s m → ReadsBack (printed (module_of m)) m
read_back s m (ts, t, d) = let h = of_text s m ts t d in fits_back m (attributes_well_formed m h.0, h.1)

-- a text reads back as a module, and so as another of the same tree
of_same : (s : List ℕ) (m n : Module) → SameTree m n → ReadsBack s m → ReadsBack s n
of_same s m n e (o, r, f) = (o, r, f ∙ e)

pub well_formed : (m : Module) → IsOfText m → IsWellFormed (module_of m)
well_formed m (s, n, (ts, t, d), e) = same_formed n m e (of_text s n ts t d).0

pub reads_back : PrintedReadsBack
reads_back m (s, n, r, e) = subst (λ text. ReadsBack text m) (same_printed n m e) (of_same (printed (module_of n)) n m e (read_back s n r))

-- ---- what the reader answers on the printed text

pub read_so : (m : Module) (r : Result Module ReadRefusal) → Answers (printed (module_of m)) r → IfOk r (λ n. Reads (printed (module_of m)) n)
read_so m (Ok n) h = h
read_so m (Err e) h = tt

pub answer_of_text : (s : List ℕ) (m : Module) → Answers s (Ok m) → IsOfText m
answer_of_text s m h = (s, m, h, refl)

same : (s : List ℕ) (m n : Module) → ReadsBack s m → Only s (Ok n) → SameTree n m
same s m n (o, r, e) only = subst (λ x. SameTree x m) (only o r) e

pub same_read : (m : Module) (r : Result Module ReadRefusal) → IsOfText m → Only (printed (module_of m)) r → IfOk r (λ n. SameTree n m)
same_read m (Ok n) h only = same (printed (module_of m)) m n (reads_back m h) only
same_read m (Err e) h only = tt

refused : (s : List ℕ) (m : Module) → ReadsBack s m → ReadsNone s → ⊥
refused s m (n, r, e) none = none n r

pub memory_alone : (m : Module) (r : Result Module ReadRefusal) → IsOfText m → Only (printed (module_of m)) r → IfErr r (λ e. e ≡ ReadRefusal.Memory)
memory_alone m (Ok n) h only = tt
memory_alone m (Err ReadRefusal.Memory) h only = refl
memory_alone m (Err (ReadRefusal.Token p)) h only = absurd (refused (printed (module_of m)) m (reads_back m h) only)
memory_alone m (Err (ReadRefusal.WideInteger p)) h only = absurd (refused (printed (module_of m)) m (reads_back m h) only)
memory_alone m (Err (ReadRefusal.LongAtom p)) h only = absurd (refused (printed (module_of m)) m (reads_back m h) only)
memory_alone m (Err (ReadRefusal.Syntax p)) h only = absurd (refused (printed (module_of m)) m (reads_back m h) only)
memory_alone m (Err (ReadRefusal.TooDeep p)) h only = absurd (refused (printed (module_of m)) m (reads_back m h) only)
memory_alone m (Err (ReadRefusal.NotInProfile p)) h only = absurd (refused (printed (module_of m)) m (reads_back m h) only)

pub ruleset reading = (well_formed, answer_of_text)

pub ruleset rereading = (well_formed, read_so, same_read, memory_alone)
