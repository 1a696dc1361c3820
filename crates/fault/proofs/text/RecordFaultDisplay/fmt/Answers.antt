-- Each arm writes the pieces of its sentence in order.
use mathlib.Core.Path.{subst⁻¹}
use Rattle.std.specs.Fmt.{HasWritten}
use Rattle.fault.specs.Sentences.{sentence}
use Rattle.fault.specs.declared.kinds.PlanFault.TheVariants.{Record}
use Rattle.fault.specs.declared.kinds.RecordFault.{RecordFault}
use Rattle.fault.proofs.text.RecordFaultDisplay.fmt.Goals as goal

pub returns-in-NotZero-clause-writes : goal.returns-in-NotZero-clause-writes
returns-in-NotZero-clause-writes g c plain ok =
    subst⁻¹ (λ (e : RecordFault). HasWritten g.W.Write.write_str_gives c.args.f.now (sentence (Record e)) c.write-in-NotZero.new.self)
    c.in-NotZero.is (c.write-in-NotZero.ensures.writes plain ok)

pub returns-in-OutOfLimits-clause-writes : goal.returns-in-OutOfLimits-clause-writes
returns-in-OutOfLimits-clause-writes g c plain ok =
    subst⁻¹ (λ (e : RecordFault). HasWritten g.W.Write.write_str_gives c.args.f.now (sentence (Record e)) c.write-in-OutOfLimits.new.self)
    c.in-OutOfLimits.is (c.write-in-OutOfLimits.ensures.writes plain ok)
