use Rattle.std.proofs.Common.{rules, arith}
use Rattle.se_outside.proofs.mem_sink.MemSinkSink.write.Goals as goal

pub returns-clause-writes : goal.returns-clause-writes
returns-clause-writes c = record { later = omega arith; failed = tt; some = search rules; bytes = search rules }
