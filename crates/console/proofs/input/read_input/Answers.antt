use Rattle.std.proofs.Common.{◌≡◌, vec_len, arith}
use Rattle.std.proofs.lemmas.Result.{IfOk-from_err}
use Rattle.console.proofs.input.read_input.Goals as goal

pub loop-init : goal.loop-init
loop-init c =
    let e : vec_len c.in_ok-bytes.bytes ≡ 12800 = c.in_ok-bytes.ensures.len in
    (omega (arith, e), omega arith)

pub returns-in_err-more : goal.returns-in_err-more
returns-in_err-more c = IfOk-from_err _ _ c.from_residual-in_err-more.ensures.0
