use Rattle.std.proofs.Common.{sym, ◌∙◌}
use Rattle.core_token.specs.declared.token.Sort.{Sort}
use Rattle.hipe_base.specs.declared.limits.TheConstants.{LEVEL_LIMIT}
use Rattle.core_reader.proofs.Running.{advanced, stopped, behind}
use Rattle.core_reader.proofs.run.run.Goals as goal

pub returns-in-Err : goal.returns-in-Err
returns-in-Err c =
    stopped LEVEL_LIMIT c.args.end c.args.text.now c.args.tokens.now c.loop-token.token-index _ c.loop-token.symbols c.loop-token.values c.step.new.symbols c.step.new.values c.in_ok-terminal.terminal c.in-Err.refusal
    c.loop-token-test.true c.in_ok-terminal.ensures.terminal c.in-Err.ensures _ c.loop-token.invariant.0

pub loop-token-preserved : goal.loop-token-preserved
loop-token-preserved c = (
  sym (advanced LEVEL_LIMIT c.args.end c.args.text.now c.args.tokens.now c.loop-token.token-index _ c.loop-token.symbols c.loop-token.values c.step.new.symbols c.step.new.values c.in_ok-terminal.terminal
      c.loop-token-test.true c.in_ok-terminal.ensures.terminal c.in-Ok.ensures) ∙ c.loop-token.invariant.0,
  behind LEVEL_LIMIT c.args.end c.args.text.now c.args.tokens.now c.loop-token.token-index (record { sort = Sort.Float; at = c.args.end; start = 0; end = 0 }) c.loop-token-test.true c.loop-token.invariant.1,
)
