-- The two laws, at what was read.
use Rattle.std.proofs.Common.{Option, sym, subst, arith}
use Rattle.faults.specs.declared.fault.FileFault.{FileFault}
use Rattle.numbers.proofs.Laws.{bytes_from}
use Rattle.sheet_reader.specs.Laws.{ReadsBack, WritesBack}
use Rattle.sheet_reader.proofs.ReadBack.{reads_back}
use Rattle.sheet_reader.proofs.WriteBack.{writes_back}
use Rattle.sheet_reader.proofs.read_sheet.Goals as goal

pub returns : goal.returns
returns c = record {
  fault = c.read.ensures.fault;
  bytes = c.read.ensures.bytes;
  reader = c.read.ensures.reader;
  back = subst (λ (o : Option FileFault). ReadsBack c.args.bytes.now o) (sym c.read.ensures.fault) (reads_back c.args.bytes.now);
  forth = subst (λ (o : Option FileFault). WritesBack c.args.bytes.now o) (sym c.read.ensures.fault)
      (writes_back c.args.bytes.now (bytes_from c.args.bytes.now (λ i. omega (arith, c.type_inv.bytes i))));
}
