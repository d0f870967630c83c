-- Linking: where the parts stand, and what filling keeps.
use Rattle.std.proofs.Common.{◌≡◌, ◌∙◌, add_assoc, ◌+◌, ◌<◌, ◌≤◌, ◌^◌, ◌++◌, ℕ, suc, List, [], ◌∷◌, All, refl, sym, ap, subst, arith, add-one, append_assoc, zero-add, length, length-append, length-drop, map, get_or, take, drop}
use Rattle.std.specs.Prelude.{fold, sum_by}
use Rattle.std.proofs.Math.Seq.{drop-append-add, drop-cons, get_or-append_seam, take-append-add}
use Rattle.std.proofs.lemmas.List.{length-take-le}
use Rattle.std.proofs.lemmas.List.Elements.{All-cons, All-head, All-nil, All-tail}
use Rattle.std.proofs.lemmas.List.FromFn.{get_or-map-range_with_len, length-map-range_with_len}
use Rattle.std.proofs.lemmas.List.Sums.{sum_by-cons, sum_by-take-le, sum_by_more, sum_by_more_le, fold_more}
use Rattle.image_link.specs.declared.code.Code.{Code}
use Rattle.image_link.specs.declared.code.CallSite.{CallSite}
use Rattle.image_link.specs.declared.names.FunctionEntry.{FunctionEntry}
use Rattle.image_link.specs.declared.image.Function.{Function}
use Rattle.hipe_base.specs.declared.limits.TheConstants.{CODE_LIMIT}
use Rattle.image_link.specs.Code.{FIELD, IsCallIn, IsPart, exit_bytes}
use Rattle.image_link.specs.Image.{IsImage, entry_of}
use Rattle.image_link.specs.Linking.{code_from, code_size, displacement, filled, functions_from, linked, linked_part, placed, replaced, size, start_of, starts_of}
use Rattle.image_link.specs.Names.{ProgramNames, AreNames}

-- the start at a number
pub start_at : (parts : List Code) (k d : ℕ) → k < length parts → get_or (starts_of parts) k d ≡ start_of parts k
start_at parts k d below = get_or-map-range_with_len (start_of parts) 0 (length parts) k k d below (zero-add k)

pub starts_length : (parts : List Code) → length (starts_of parts) ≡ length parts
starts_length parts = length-map-range_with_len (start_of parts) 0 (length parts)

-- a part begins where the one before it ends, and the last ends with the code
pub start_next : (parts : List Code) (k : ℕ) (d : Code) → k < length parts → start_of parts (k + 1) ≡ start_of parts k + size (get_or parts k d)
start_next parts k d below = omega (arith, sum_by_more size parts k d below)

pub part_within : (parts : List Code) (k : ℕ) (d : Code) → k < length parts → start_of parts k + size (get_or parts k d) ≤ code_size parts
part_within parts k d below = omega (arith, sum_by_more_le size parts k d below)

pub start_within : (parts : List Code) (k : ℕ) → start_of parts k ≤ code_size parts
start_within parts k = omega (arith, sum_by-take-le size parts k)

-- all starts are within the limit
pub starts_within : (parts : List Code) → code_size parts ≤ CODE_LIMIT → All (λ start. start ≤ CODE_LIMIT) (starts_of parts)
starts_within parts fits = λ k d below.
    let number : k < length parts = subst (λ n. k < n) (starts_length parts) below in
    omega (arith, start_at parts k d number, start_within parts k, fits)

-- bytes behind others
pub replaced_behind : (prefix bytes : List ℕ) (at : ℕ) (new : List ℕ)
    → replaced (prefix ++ bytes) (length prefix + at) new ≡ prefix ++ replaced bytes at new
replaced_behind prefix bytes at new =
    ap (λ t. t ++ new ++ drop (length prefix + at + length new) (prefix ++ bytes)) (take-append-add prefix bytes at)
    ∙ ap (λ n. (prefix ++ take at bytes) ++ new ++ drop n (prefix ++ bytes)) (add_assoc (length prefix) at (length new))
    ∙ ap (λ r. (prefix ++ take at bytes) ++ new ++ r) (drop-append-add prefix bytes (at + length new))
    ∙ ap (λ l. l ++ drop (at + length new) bytes) (append_assoc prefix (take at bytes) new)
    ∙ append_assoc prefix (take at bytes ++ new) (drop (at + length new) bytes)

pub replaced_length : (bytes : List ℕ) (at : ℕ) (new : List ℕ) → at + length new ≤ length bytes → length (replaced bytes at new) ≡ length bytes
replaced_length bytes at new fits =
    let within : at ≤ length bytes = omega (arith, fits) in
    omega (
      arith,
      fits,
      length-append (take at bytes ++ new) (drop (at + length new) bytes),
      length-append (take at bytes) new,
      length-take-le at bytes within,
      length-drop (at + length new) bytes,
    )

pub displacement_length : (next target : ℕ) → length (displacement next target) ≡ 4
unfolding displacement
displacement_length next target = refl

-- filling keeps the length
pub filled_length : (starts : List ℕ) (start : ℕ) (bytes : List ℕ) (call : CallSite) → call.at + FIELD ≤ length bytes
    → length (filled starts start bytes call) ≡ length bytes
filled_length starts start bytes call fits =
    replaced_length bytes call.at (displacement (start + call.at + FIELD) (get_or starts call.target 0)) (omega (arith, fits, displacement_length (start + call.at + FIELD) (get_or starts call.target 0)))

all_filled : (starts : List ℕ) (start functions : ℕ) (bytes : List ℕ) (calls : List CallSite)
    → All (IsCallIn (length bytes) functions) calls → length (fold (filled starts start) bytes calls) ≡ length bytes
all_filled starts start functions bytes [] are = refl
all_filled starts start functions bytes (call ∷ calls) are =
    let same : length (filled starts start bytes call) ≡ length bytes =
    filled_length starts start bytes call (All-head (IsCallIn (length bytes) functions) call calls are).0 in
    all_filled starts start functions (filled starts start bytes call) calls
    (subst (λ n. All (IsCallIn n functions) calls) (sym same) (All-tail (IsCallIn (length bytes) functions) call calls are))
    ∙ same

pub part_length : (starts : List ℕ) (start functions : ℕ) (part : Code) → IsPart functions part → length (linked_part starts start part) ≡ size part
part_length starts start functions part is = all_filled starts start functions part.bytes part.calls is.calls

-- one more call filled
pub call_filled : (prefix bytes starts : List ℕ) (calls items : List CallSite) (k : ℕ) (d : CallSite) (start : ℕ) (before now : List ℕ)
    → k < length items → items ≡ calls → start ≡ length prefix → before ≡ prefix ++ fold (filled starts start) bytes (take k calls)
    → now ≡ replaced before (start + (get_or items k d).at)
    (displacement (start + (get_or items k d).at + FIELD) (get_or starts (get_or items k d).target 0))
    → now ≡ prefix ++ fold (filled starts start) bytes (take (k + 1) calls)
call_filled prefix bytes starts calls items k d start before now below same begin was is =
    let call : CallSite = get_or calls k d in
    let new : List ℕ = displacement (start + call.at + FIELD) (get_or starts call.target 0) in
    let filled_so_far : List ℕ = fold (filled starts start) bytes (take k calls) in
    is
    ∙ ap (λ (cs : List CallSite). replaced before (start + (get_or cs k d).at)
    (displacement (start + (get_or cs k d).at + FIELD) (get_or starts (get_or cs k d).target 0))) same
    ∙ ap (λ b. replaced b (start + call.at) new) was
    ∙ ap (λ n. replaced (prefix ++ filled_so_far) (n + call.at) new) begin
    ∙ replaced_behind prefix filled_so_far call.at new
    ∙ ap (λ b. prefix ++ b) (sym (fold_more (filled starts start) bytes calls k d (subst (λ (cs : List CallSite). k < length cs) same below)))

-- a filled call keeps the length
pub call_keeps : (before now : List ℕ) (calls items : List CallSite) (k : ℕ) (d : CallSite) (start size functions : ℕ) (new : List ℕ)
    → k < length items → items ≡ calls → All (IsCallIn size functions) calls → length new ≡ FIELD → length before ≡ start + size
    → now ≡ replaced before (start + (get_or items k d).at) new → length now ≡ start + size
call_keeps before now calls items k d start size functions new below same are four before_is is =
    let in_part : (get_or calls k d).at + FIELD ≤ size = (are k d (subst (λ (cs : List CallSite). k < length cs) same below)).0 in
    let at_same : (get_or items k d).at ≡ (get_or calls k d).at = ap (λ (cs : List CallSite). (get_or cs k d).at) same in
    ap length is
    ∙ replaced_length before (start + (get_or items k d).at) new (omega (arith, in_part, at_same, four, before_is))
    ∙ before_is

-- one more part
pub code_step : (parts : List Code) (k : ℕ) (d : Code) → k < length parts
    → code_from parts k (drop k parts)
    ≡ linked_part (starts_of parts) (start_of parts k) (get_or parts k d) ++ code_from parts (k + 1) (drop (k + 1) parts)
code_step parts k d below = ap (code_from parts k) (drop-cons parts k d below)
    ∙ ap (λ n. linked_part (starts_of parts) (start_of parts k) (get_or parts k d) ++ code_from parts (k + 1) (drop n parts)) (sym (add-one k))

pub functions_step : (parts : List Code) (entries : List FunctionEntry) (k : ℕ) (f : FunctionEntry) (d : Code) → k < length entries → k < length parts
    → functions_from parts k (drop k entries) (drop k parts)
    ≡ placed (get_or entries k f) (start_of parts k) (get_or parts k d) ∷ functions_from parts (k + 1) (drop (k + 1) entries) (drop (k + 1) parts)
functions_step parts entries k f d one two =
    ap (λ fs. functions_from parts k fs (drop k parts)) (drop-cons entries k f one)
    ∙ ap (functions_from parts k (get_or entries k f ∷ drop (suc k) entries)) (drop-cons parts k d two)
    ∙ ap (λ n. placed (get_or entries k f) (start_of parts k) (get_or parts k d) ∷ functions_from parts (k + 1) (drop n entries) (drop n parts)) (sym (add-one k))

pub part_joined : (parts : List Code) (starts : List ℕ) (k : ℕ) (item : Code) (before now whole : List ℕ)
    → k < length parts → item ≡ get_or parts k item → starts ≡ starts_of parts → length before ≡ start_of parts k
    → now ≡ before ++ linked_part starts (length before) item → before ++ code_from parts k (drop k parts) ≡ whole
    → now ++ code_from parts (k + 1) (drop (k + 1) parts) ≡ whole
part_joined parts starts k item before now whole below same are begin is left =
    let rest : List ℕ = code_from parts (k + 1) (drop (k + 1) parts) in
    ap (λ b. b ++ rest) is
    ∙ append_assoc before (linked_part starts (length before) item) rest
    ∙ ap (λ s. before ++ (linked_part s (length before) item ++ rest)) are
    ∙ ap (λ n. before ++ (linked_part (starts_of parts) n item ++ rest)) begin
    ∙ ap (λ p. before ++ (linked_part (starts_of parts) (start_of parts k) p ++ rest)) same
    ∙ ap (λ b. before ++ b) (sym (code_step parts k item below))
    ∙ left

pub joined_length : (parts : List Code) (starts : List ℕ) (k functions : ℕ) (item : Code) (before now : List ℕ)
    → k < length parts → item ≡ get_or parts k item → IsPart functions item → length before ≡ start_of parts k
    → now ≡ before ++ linked_part starts (length before) item → length now ≡ start_of parts (k + 1)
joined_length parts starts k functions item before now below same part begin is = omega (
  arith,
  ap length is,
  length-append before (linked_part starts (length before) item),
  part_length starts (length before) functions item part,
  start_next parts k item below,
  ap size same,
  begin,
)

pub function_placed : (parts : List Code) (starts : List ℕ) (entries : List FunctionEntry) (k : ℕ) (f : FunctionEntry) (d : Code)
    (before now whole : List Function) → k < length entries → k < length parts → get_or starts k 0 ≡ start_of parts k
    → now ≡ before ++ placed (get_or entries k f) (get_or starts k 0) (get_or parts k d) ∷ []
    → before ++ functions_from parts k (drop k entries) (drop k parts) ≡ whole
    → now ++ functions_from parts (k + 1) (drop (k + 1) entries) (drop (k + 1) parts) ≡ whole
function_placed parts starts entries k f d before now whole one two start is left =
    let rest : List Function = functions_from parts (k + 1) (drop (k + 1) entries) (drop (k + 1) parts) in
    ap (λ fs. fs ++ rest) is
    ∙ append_assoc before (placed (get_or entries k f) (get_or starts k 0) (get_or parts k d) ∷ []) rest
    ∙ ap (λ s. before ++ (placed (get_or entries k f) s (get_or parts k d) ∷ rest)) start
    ∙ ap (λ fs. before ++ fs) (sym (functions_step parts entries k f d one two))
    ∙ left

-- how many bytes the code has
code_length : (parts rest : List Code) (k functions : ℕ) → All (IsPart functions) rest → length (code_from parts k rest) ≡ sum_by size rest
code_length parts [] k functions are = refl
code_length parts (part ∷ rest) k functions are = omega (
  arith,
  length-append (linked_part (starts_of parts) (start_of parts k) part) (code_from parts (k + 1) rest),
  part_length (starts_of parts) (start_of parts k) functions part (All-head (IsPart functions) part rest are),
  code_length parts rest (k + 1) functions (All-tail (IsPart functions) part rest are),
  sum_by-cons size part rest,
)

pub linked_length : (parts : List Code) (functions : ℕ) → All (IsPart functions) parts → length (exit_bytes ++ code_from parts 0 parts) ≡ code_size parts
linked_length parts functions are = length-append exit_bytes (code_from parts 0 parts) ∙ ap (λ n. length exit_bytes + n) (code_length parts parts 0 functions are)

-- the entries of placed functions are those that were placed
entries_same : (parts rest : List Code) (k : ℕ) (fs : List FunctionEntry) → length rest ≡ length fs → map entry_of (functions_from parts k fs rest) ≡ fs
entries_same parts rest k [] same = refl
entries_same parts [] k (f ∷ fs) same = let no : ⊥ = omega (arith, same) in absurd no
entries_same parts (part ∷ rest) k (f ∷ fs) same = ap (λ gs. f ∷ gs) (entries_same parts rest (k + 1) fs (omega (arith, same)))

-- the closure entries lie in the code
entries_within : (parts prefix rest : List Code) (fs : List FunctionEntry) (functions : ℕ) → parts ≡ prefix ++ rest → All (IsPart functions) rest
    → All (λ f. f.closure_entry < code_size parts) (functions_from parts (length prefix) fs rest)
entries_within parts prefix rest [] functions is are = All-nil (λ f. f.closure_entry < code_size parts)
entries_within parts prefix [] (f ∷ fs) functions is are = All-nil (λ f. f.closure_entry < code_size parts)
entries_within parts prefix (part ∷ rest) (f ∷ fs) functions is are =
    let number : length prefix < length parts = omega (arith, ap length is, length-append prefix (part ∷ rest)) in
    let here : get_or parts (length prefix) part ≡ part = ap (λ p. get_or p (length prefix) part) is ∙ get_or-append_seam prefix part rest part in
    let first : start_of parts (length prefix) + part.closure_entry < code_size parts =
    omega (arith, part_within parts (length prefix) part number, ap size here, (All-head (IsPart functions) part rest are).entry) in
    let next : length (prefix ++ part ∷ []) ≡ length prefix + 1 = length-append prefix (part ∷ []) in
    let P : List Function → Type 0 = All (λ f. f.closure_entry < code_size parts) in
    All-cons (λ f. f.closure_entry < code_size parts) (placed f (start_of parts (length prefix)) part) (functions_from parts (length prefix + 1) fs rest) first
    (subst (λ n. P (functions_from parts n fs rest)) next
    (entries_within parts (prefix ++ part ∷ []) rest fs functions (is ∙ sym (append_assoc prefix (part ∷ []) rest)) (All-tail (IsPart functions) part rest are)))

-- the image keeps the rules of its fields
pub linked_rules : (parts : List Code) (n : ProgramNames) → length parts ≡ length n.functions → All (IsPart (length n.functions)) parts
    → code_size parts ≤ CODE_LIMIT → AreNames n → All (λ b. b < 2 ^ 8) (linked parts n).code → IsImage (linked parts n)
linked_rules parts n count are fits rules bytes =
    let size_is : length (exit_bytes ++ code_from parts 0 parts) ≡ code_size parts = linked_length parts (length n.functions) are in
    record {
      names = subst (λ fs. AreNames (record n { functions = fs })) (sym (entries_same parts parts 0 n.functions count)) rules;
      entries = subst (λ s. All (λ f. f.closure_entry < s) (functions_from parts 0 n.functions parts)) (sym size_is)
          (entries_within parts [] parts n.functions (length n.functions) refl are);
      size = subst (λ s. s ≤ CODE_LIMIT) (sym size_is) fits;
      bytes = bytes;
    }
