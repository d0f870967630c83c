use Rattle.std.proofs.Common.{◌≡◌, ◌+◌, ◌≤◌, arith, rules, refl, ◌++◌, length, take, vec_len, length-append, length-take-le}
use Rattle.std.proofs.lemmas.Result.{err_from_is_err_and}
use Rattle.std.proofs.KnownBytes.{Consumes-trans}
use Rattle.hipe_edge.proofs.reading.read_all.Goals as goal

-- with the bytes of the last read, limit + 1 were taken
pub returns-in-Ok-clause-taken : goal.returns-in-Ok-clause-taken
returns-in-Ok-clause-taken g c =
    let got = take c.in-Ok.n c.read.new.into in
    let all = c.loop-bytes.bytes.items ++ got in
    let size : length all ≡ c.args.limit + 1 =
    omega (arith, length-append c.loop-bytes.bytes.items got, length-take-le c.in-Ok.n c.read.new.into c.in-Ok.ensures.bound, c.loop-bytes.bytes.ok.0) in
    (all, Consumes-trans _ _ _ _ _ c.loop-bytes.invariant.taken c.in-Ok.ensures.taken, (omega arith, ((λ _. refl), (λ _. size))))

-- with the bytes of the last read, for which there was no memory, fewer were taken
pub returns-in_err-extend_from_slice-in-Ok-2-clause-taken :
    goal.returns-in_err-extend_from_slice-in-Ok-2-clause-taken
returns-in_err-extend_from_slice-in-Ok-2-clause-taken g c =
    let got = take c.in-Ok.n c.read.new.into in
    let all = c.loop-bytes.bytes.items ++ got in
    let fits : c.in-Ok.n + vec_len c.loop-bytes.bytes ≤ c.args.limit + 1 = search rules in
    let size : length all ≤ c.args.limit =
    omega (arith, length-append c.loop-bytes.bytes.items got, length-take-le c.in-Ok.n c.read.new.into c.in-Ok.ensures.bound, c.loop-bytes.bytes.ok.0) in
    let p = err_from_is_err_and c.from_residual-in_err-extend_from_slice-in-Ok-2.result c.from_residual-in_err-extend_from_slice-in-Ok-2.ensures.1 in
    rw (p.1, p.2) (all, Consumes-trans _ _ _ _ _ c.loop-bytes.invariant.taken c.in-Ok.ensures.taken, (omega arith, ((λ same. absurd (omega arith)), (λ e. cc))))
