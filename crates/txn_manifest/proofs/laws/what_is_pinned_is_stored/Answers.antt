use Rattle.txn_manifest.proofs.Telling.{pinned_files}
use Rattle.txn_manifest.proofs.laws.what_is_pinned_is_stored.Goals as goal

pub returns : goal.returns
returns c p s rows told = pinned_files p.layout.names s.files rows told.h told.b told.stands.versions.files_stand.fits told.tells
