use Rattle.std.proofs.Math.Facts.{Fits-of_lt}
use Rattle.image_link.proofs.Format.{code_fits, exports_fit, functions_fit}
use Rattle.image_link.proofs.bytes.put_header.Goals as goal

pub overflow_cast-functions : goal.overflow_cast-functions
overflow_cast-functions c = rw c.functions.ensures (Fits-of_lt (functions_fit c.args.image.now c.rules.ensures))

pub overflow_cast-exports : goal.overflow_cast-exports
overflow_cast-exports c = rw c.exports.ensures (Fits-of_lt (exports_fit c.args.image.now c.rules.ensures))

pub overflow_cast-code : goal.overflow_cast-code
overflow_cast-code c = rw c.code.ensures (Fits-of_lt (code_fits c.args.image.now c.rules.ensures))
