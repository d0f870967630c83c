-- What the image of a sum means: the machine ends with the plain sum.
use Rattle.std.proofs.Common.{◌≡◌, ℕ, ◌+◌, ◌-◌, ◌*◌, ◌^◌, ◌<◌, ◌≤◌, ℤ, pos, negsuc, List, [], ◌∷◌, ◌++◌, length, drop, Some, Err, refl, sym, ap, ap₂, ◌∙◌, subst, arith, rules, append_assoc, length-append, length-set}
use Rattle.std.specs.Prelude.{FitsSigned, slice_get}
use Rattle.std.specs.Int.{w32}
use Rattle.std.proofs.Math.Seq.{drop-append_seam}
use Rattle.std.proofs.lemmas.List.{length-replicate}
use Rattle.hipe_terms.specs.Terms.{integer}
use Rattle.amd64_form.specs.declared.inst.Inst.TheVariants.{Push}
use Rattle.amd64_form.specs.declared.reg.Reg.TheVariants.{Rax}
use Rattle.amd64_form.specs.Inst.{IsInst}
use Rattle.amd64_form.specs.Encoding.{encoding}
use Rattle.amd64_form.proofs.Sizes.{encoding_size}
use Rattle.hipe_base.specs.declared.limits.TheConstants.{CODE_LIMIT}
use Rattle.region_memory.specs.declared.layout.TheConstants.{CODE_BEGIN, STACK_BEGIN}
use Rattle.region_memory.specs.Regions.{Regions, IsWithinLimits, opened, zeros}
use Rattle.region_memory.proofs.Words.{opened_within}
use Rattle.heap_terms.specs.Integers.{IsInteger, word_of}
use Rattle.heap_terms.specs.Shapes.{Symbols}
use Rattle.machine_services.specs.Services.{Returned}
use Rattle.image_link.specs.Code.{exit_part, exit_bytes}
use Rattle.image_link.specs.declared.code.Code.{Code as Part}
use Rattle.image_link.specs.declared.linking.LinkFault.{LinkFault}
use Rattle.image_link.specs.declared.linking.LinkFault.TheVariants.{TooLarge}
use Rattle.image_link.specs.Image.{ProgramImage}
use Rattle.image_link.specs.Linking.{IsLinked, code_size, linked}
use Rattle.image_link.specs.Names.{ProgramNames}
use Rattle.image_load.specs.Loading.{symbols_for}
use Rattle.amd64_machine.specs.Arithmetic.{no_flags}
use Rattle.amd64_machine.specs.Machine.{State, Over, ByService}
use Rattle.amd64_machine.specs.Loading.{start}
use Rattle.amd64_machine.proofs.Fetching.{fetches}
use Rattle.core_sum.specs.declared.sum.Sum.{Sum, roll-Sum}
use Rattle.core_sum.specs.declared.sum.Sum.TheOpen.{Sum-F}
use Rattle.core_sum.specs.declared.sum.Sum.TheFolds.{ind-Sum, map-Sum}
use Rattle.core_sum.specs.Sums.{int_of, plus_of, value, count_of, HasSmallIntegers}
use Rattle.core_sum.proofs.Levels.{value-int, count-int, count-plus, farthest-plus}
use Rattle.sum_code.specs.declared.limits.TheConstants.{HEAP_WORDS, STACK_WORDS}
use Rattle.sum_code.specs.Code.{Code, addition, evaluation, ending, bytes_of, code_for, part_for, names_for_main, image_for, main_call, EndsWith}
use Rattle.sum_code.proofs.Beginning.{prepared, main_function, start_is, prepared_within}
use Rattle.sum_code.proofs.Exit.{exit_runs}
use Rattle.sum_code.proofs.Integers.{small_value}
use Rattle.sum_code.proofs.Levels.{evaluation-int, evaluation-plus}
use Rattle.sum_code.proofs.Simulation.{Has, Within, go, go_back, sum_runs}
use Rattle.sum_code.proofs.Stack.{set_get_same}

-- ---- code that stands at a place

abbrev AllInsts : Code → Type 0
AllInsts [] = Unit {0}
AllInsts (i ∷ is) = IsInst i × AllInsts is

insts_append : (a b : Code) → AllInsts a → AllInsts b → AllInsts (a ++ b)
insts_append [] b h k = k
insts_append (i ∷ a) b h k = (h.0, insts_append a b h.1 k)

-- instructions whose bytes stand in the code behind others stand there
has_all : (is : Code) (code before after : List ℕ) (at : ℕ) → AllInsts is → code ≡ before ++ (bytes_of is ++ after) → at ≡ CODE_BEGIN + length before → Has code at is
has_all [] code before after at are e place = tt
has_all (i ∷ is) code before after at are e place =
    let split : code ≡ before ++ (encoding i ++ (bytes_of is ++ after)) = e ∙ ap (λ b. before ++ b) (append_assoc (encoding i) (bytes_of is) after) in
    let offset : at - CODE_BEGIN ≡ length before = omega arith in
    let seam : drop (at - CODE_BEGIN) code ≡ encoding i ++ (bytes_of is ++ after) =
    ap (λ n. drop n code) offset ∙ ap (λ c. drop (length before) c) split ∙ drop-append_seam before (encoding i ++ (bytes_of is ++ after)) in (
      at + length (encoding i),
      (fetches code).found at i (omega arith, bytes_of is ++ after, are.0, seam),
      has_all is code (before ++ encoding i) after (at + length (encoding i)) are.1 (split ∙ sym (append_assoc before (encoding i) (bytes_of is ++ after)))
          (omega (arith, length-append before (encoding i))),
    )

-- ---- the instructions of a sum

small_word : (n : ℤ) → IsInteger n → word_of n < 2 ^ 64
small_word (pos n) is = omega arith
small_word (negsuc n) is = omega arith

tag_fits : FitsSigned w32 (negsuc 14)
tag_fits = search rules

abbrev AreInsts : Sum → Type 0
AreInsts e = HasSmallIntegers e → AllInsts (evaluation e)

int_insts : (n : ℤ) → AreInsts (int_of n)
int_insts n small =
    let is : IsInteger n = subst IsInteger (value-int n) (small_value (int_of n) small (omega (arith, count-int n))) in
    subst AllInsts (sym (evaluation-int n)) (small_word n is, tt)

plus_insts : (a b : Sum) → AreInsts a → AreInsts b → AreInsts (plus_of a b)
plus_insts a b p q small =
    subst AllInsts (sym (evaluation-plus a b))
    (insts_append (evaluation a ++ (Push Rax ∷ []) ++ evaluation b) addition
    (insts_append (evaluation a ++ (Push Rax ∷ [])) (evaluation b) (insts_append (evaluation a) (Push Rax ∷ []) (p (omega (arith, farthest-plus a b))) (tt, tt)) (q (omega (arith, farthest-plus a b))))
    (tt, (tt, (tag_fits, tt))))

insts_step : (y : Sum-F ((e : Sum) × AreInsts e)) → AreInsts (roll-Sum (map-Sum ((e : Sum) × AreInsts e) Sum (λ e. e.0) y))
unfolding int_of plus_of
insts_step (Sum-F.Int n) = int_insts n
insts_step (Sum-F.Plus a b) = plus_insts a.0 b.0 a.1 b.1

are_insts : (e : Sum) → AreInsts e
are_insts = ind-Sum AreInsts (λ x y is. subst (λ z. AreInsts (roll-Sum z)) is (insts_step y))

-- ---- its length

bytes_size : (is : Code) → length (bytes_of is) ≤ 10 * length is
bytes_size [] = omega arith
bytes_size (i ∷ is) = omega (arith, length-append (encoding i) (bytes_of is), encoding_size i, bytes_size is)

abbrev IsShort : Sum → Type 0
IsShort e = length (evaluation e) + 4 ≤ 5 * count_of e

int_short : (n : ℤ) → IsShort (int_of n)
int_short n =
    let size : length (evaluation (int_of n)) ≡ 1 = ap length (evaluation-int n) in
    omega (arith, count-int n, size)

plus_short : (a b : Sum) → IsShort a → IsShort b → IsShort (plus_of a b)
plus_short a b p q =
    let size : length (evaluation (plus_of a b)) ≡ length (evaluation a ++ (Push Rax ∷ []) ++ evaluation b ++ addition) = ap length (evaluation-plus a b) in
    omega (
      arith,
      size,
      count-plus a b,
      length-append (evaluation a ++ (Push Rax ∷ []) ++ evaluation b) addition,
      length-append (evaluation a ++ (Push Rax ∷ [])) (evaluation b),
      length-append (evaluation a) (Push Rax ∷ []),
    )

short_step : (y : Sum-F ((e : Sum) × IsShort e)) → IsShort (roll-Sum (map-Sum ((e : Sum) × IsShort e) Sum (λ e. e.0) y))
unfolding int_of plus_of
short_step (Sum-F.Int n) = int_short n
short_step (Sum-F.Plus a b) = plus_short a.0 b.0 a.1 b.1

is_short : (e : Sum) → IsShort e
is_short = ind-Sum IsShort (λ x y is. subst (λ z. IsShort (roll-Sum z)) is (short_step y))

-- ---- the whole

whole_insts : (e : Sum) → HasSmallIntegers e → AllInsts (evaluation e ++ ending)
whole_insts e small = insts_append (evaluation e) ending (are_insts e small) (omega arith, (tt, tt))

offset_fits : FitsSigned w32 (pos 3)
offset_fits = search rules

exit_insts : AllInsts exit_part
exit_insts = (tt, (tt, (offset_fits, (omega arith, (tt, tt)))))

code_bytes : (e : Sum) → count_of e ≤ 32768 → length (code_for e) ≤ 2000000
code_bytes e few = omega (arith, bytes_size (evaluation e ++ ending), length-append (evaluation e) ending, is_short e)

image_size : (name : List ℕ) (e : Sum) → count_of e ≤ 32768 → length (image_for name e).code ≤ CODE_LIMIT
image_size name e few = omega (arith, code_bytes e few, length-append exit_bytes (code_for e ++ []), length-append (code_for e) [])

-- in each memory with stack enough
runs_in : (name : List ℕ) (e : Sum) (regions : Regions) (P : State → Type 0) (limits : IsWithinLimits (prepared name e regions)) (symbols : Symbols) → HasSmallIntegers e → count_of e ≤ 32768 → 32768 < length regions.stack
    → P (Over (ByService (Returned (integer (value e)))) []) → Within symbols (prepared name e regions) limits P 100000000 (start (image_for name e) main_call regions)
runs_in name e regions P limits symbols small few room p =
    let r : Regions = prepared name e regions in
    let free : ℕ = length regions.stack - 1 in
    let size : length r.stack ≡ length regions.stack = length-set regions.stack free CODE_BEGIN in
    let is : IsInteger (value e) = small_value e small few in
    let exit : Has r.code CODE_BEGIN exit_part = has_all exit_part r.code [] (code_for e ++ []) CODE_BEGIN exit_insts refl refl in
    let whole : Has r.code (CODE_BEGIN + (main_function name e).closure_entry) (evaluation e ++ ending) =
    has_all (evaluation e ++ ending) r.code exit_bytes [] (CODE_BEGIN + (main_function name e).closure_entry) (whole_insts e small) refl refl in
    subst (Within symbols r limits P 100000000) (sym (start_is name e regions))
    (sum_runs symbols r limits P e free 7 100000000 ending (CODE_BEGIN + (main_function name e).closure_entry) _ no_flags r.stack
    (record { small = small; room = omega arith; free = omega arith; size = refl; top = ap (λ n. STACK_BEGIN + 8 * (n - 1)) size; has = whole })
    few (omega arith)
    (λ at registers flags stack here top word same_size same.
    let last : slice_get stack free ≡ Some CODE_BEGIN = same free (omega arith) ∙ set_get_same regions.stack free CODE_BEGIN (omega arith) in
    go symbols r limits P stack here.1
    (go_back symbols r limits P stack free CODE_BEGIN here.2.1 same_size (omega arith) top last
    (exit_runs symbols r limits P (value e) CODE_BEGIN _ flags stack is exit word refl p))))

opened_stack : (heap stack : ℕ) → length (opened heap stack).stack ≡ stack
unfolding opened zeros
opened_stack heap stack = length-replicate stack 0

pub means : (name : List ℕ) (e : Sum) → HasSmallIntegers e → count_of e ≤ 32768 → EndsWith (image_for name e) (value e)
means name e small few =
    let regions : Regions = opened HEAP_WORDS STACK_WORDS in
    let limits : IsWithinLimits regions = opened_within HEAP_WORDS STACK_WORDS (omega arith) (omega arith) (omega arith) in
    let stack : length regions.stack ≡ STACK_WORDS = opened_stack HEAP_WORDS STACK_WORDS in
    let w = runs_in name e regions (λ s. s ≡ Over (ByService (Returned (integer (value e)))) []) (prepared_within name e regions limits (image_size name e few)) (symbols_for (image_for name e) []) small few (omega arith) refl in
    (w.steps, w.few, w.is)

-- ---- linking

-- what is linked is the sum's part alone
pub parts_are : (e : Sum) (none : List Part) (part : Part) (parts : List Part) → parts ≡ none ++ part ∷ [] → none ≡ [] → part ≡ part_for e → parts ≡ part_for e ∷ []
parts_are e none part parts p n is = p ∙ ap₂ (λ ps q. ps ++ q ∷ []) n is

-- the code isn't too large
pub fits : (e : Sum) (parts : List Part) (names : ProgramNames) (fault : LinkFault) (bytes : ℕ) → parts ≡ part_for e ∷ [] → fault ≡ TooLarge bytes → IsLinked parts names (Err fault) → count_of e ≤ 32768 → ⊥
fits e parts names fault bytes of is linked few =
    let large : CODE_LIMIT < code_size parts = (subst (λ f. IsLinked parts names (Err f)) is linked).1 in
    let size : code_size parts ≡ code_size (part_for e ∷ []) = ap code_size of in
    omega (arith, code_bytes e few)

-- the image that was linked
pub image_is : (name : List ℕ) (e : Sum) (parts : List Part) (names : ProgramNames) (image : ProgramImage) → parts ≡ part_for e ∷ [] → names ≡ names_for_main name → image ≡ linked parts names → image ≡ image_for name e
image_is name e parts names image of are is = is ∙ ap₂ linked of are
