use Rattle.txn_folder_model.proofs.Lasting.{put_lasts, put_stands, gone_lasts, got_lasts, same_lasts}
use Rattle.txn_folder_model.proofs.Listed.{listed_lasts}
use Rattle.txn_folder_model.proofs.laws.what_was_told_lasts.Goals as goal

pub returns : goal.returns
returns c = record {
  put = λ floor t call token events syncs place bytes low asks answered. put_lasts floor events syncs t call low place bytes token asks answered;
  stands = λ floor t call token events syncs place bytes left low asks answered kept is. put_stands floor events syncs t call low place bytes token left asks answered kept is;
  removed = λ floor t call id events syncs phase low is answered. gone_lasts floor events syncs t call low id phase is answered;
  told = λ floor t call events syncs place known phase got low is answered. got_lasts floor events syncs t call low place known phase got is answered;
  unmodified = λ floor t call events syncs place known phase low is answered. same_lasts floor events syncs t call low place known phase is answered;
  listed = λ names floor t events syncs l run meta ends listed has. listed_lasts names floor events syncs l t ends run listed meta has;
}
