use Rattle.std.proofs.Common.{refl}
use Rattle.chart_run.specs.declared.stop.RunStop.TheVariants as stop
use Rattle.chart_run.specs.Ends.{Done, Words, ReadFault, WriteFault, NoMemory, LongScript}
use Rattle.chart_run.proofs.Ended.{end_so, end_done}
use Rattle.chart_tool.proofs.tool.ended.Goals as goal

pub returns-in-Ok-clause-ended : goal.returns-in-Ok-clause-ended
returns-in-Ok-clause-ended g c = (Done, end_done _ _ c.in-Ok.is, c.noted.ensures.status, c.noted.ensures.noted)

pub returns-in-Err-Words-clause-ended : goal.returns-in-Err-Words-clause-ended
returns-in-Err-Words-clause-ended g c = (
  Words,
  end_so _ _ stop.Words Words c.in-Err-Words.is c.in-Err-Words.field-0-is refl,
  c.noted-in-Err-Words.ensures.status,
  c.noted-in-Err-Words.ensures.noted,
)

pub returns-in-Err-Read-clause-ended : goal.returns-in-Err-Read-clause-ended
returns-in-Err-Read-clause-ended g c = (
  ReadFault,
  end_so _ _ stop.Read ReadFault c.in-Err-Read.is c.in-Err-Read.field-0-is refl,
  c.noted-in-Err-Read.ensures.status,
  c.noted-in-Err-Read.ensures.noted,
)

pub returns-in-Err-Write-clause-ended : goal.returns-in-Err-Write-clause-ended
returns-in-Err-Write-clause-ended g c = (
  WriteFault,
  end_so _ _ stop.Write WriteFault c.in-Err-Write.is c.in-Err-Write.field-0-is refl,
  c.noted-in-Err-Write.ensures.status,
  c.noted-in-Err-Write.ensures.noted,
)

pub returns-in-Err-Memory-clause-ended : goal.returns-in-Err-Memory-clause-ended
returns-in-Err-Memory-clause-ended g c = (
  NoMemory,
  end_so _ _ stop.Memory NoMemory c.in-Err-Memory.is c.in-Err-Memory.field-0-is refl,
  c.noted-in-Err-Memory.ensures.status,
  c.noted-in-Err-Memory.ensures.noted,
)

pub returns-in-Err-ScriptSize-clause-ended : goal.returns-in-Err-ScriptSize-clause-ended
returns-in-Err-ScriptSize-clause-ended g c = (
  LongScript,
  end_so _ _ stop.ScriptSize LongScript c.in-Err-ScriptSize.is c.in-Err-ScriptSize.field-0-is refl,
  c.noted-in-Err-ScriptSize.ensures.status,
  c.noted-in-Err-ScriptSize.ensures.noted,
)
