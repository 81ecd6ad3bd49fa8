use Rattle.encoding_mem.specs.laws.EncoderCalls.{item_bytes-open_items, item_bytes-whole_items}
use Rattle.encoding_mem.proofs.laws.bytes_of_items.Goals as goal

pub returns-clause-text : goal.returns-clause-text
returns-clause-text c = item_bytes-open_items

pub returns-clause-whole : goal.returns-clause-whole
returns-clause-whole c = item_bytes-whole_items
