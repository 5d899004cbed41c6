use Rattle.js_command.proofs.KeptDocuments.{kept_none}
use Rattle.js_command.proofs.documents.Taken.new.Goals as goal

pub returns : goal.returns
returns c = kept_none c.new.result c.new.ensures
