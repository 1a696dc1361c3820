use Rattle.interface.proofs.Writings.{read_back, read_only}
use Rattle.interface.proofs.formats.calls_read_back.Goals as goal

pub returns : goal.returns
returns c = record { back = read_back; only = read_only }
