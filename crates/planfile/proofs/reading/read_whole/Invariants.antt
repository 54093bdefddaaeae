use Rattle.std.proofs.Common.{◌≡◌, length}
use Rattle.planfile.proofs.Advancing.{ReadUpTo}
use Rattle.planfile.proofs.reading.read_whole.Given as goal

-- the file was read up to the rest, into the caller's list
abbrev pub invariant-loop-next : goal.invariant-loop-next
invariant-loop-next l = record {
  read : ReadUpTo (length l.fn.list) l.file l.reader l.next-iterator;
  list : l.reader.blocks.ghost_name ≡ l.initial.reader.blocks.ghost_name;
}
