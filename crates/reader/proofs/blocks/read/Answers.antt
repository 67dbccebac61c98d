use Rattle.reader.proofs.Idling.{idle_lines_only_move}
use Rattle.reader.proofs.Ranging.{block_lawful}
use Rattle.reader.proofs.blocks.read.Goals as goal

pub returns : goal.returns
returns c =
    record {
      value = c.read_block.ensures.value;
      lawful = block_lawful c.args.text.now c.read_block.result c.read_block.ensures.value;
      idle = idle_lines_only_move;
    }
