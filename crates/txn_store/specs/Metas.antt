-- How a listing is stored.
use Rattle.std.specs.Prelude.{ℕ, List, refl}
use Rattle.std.specs.Coded.{Coded, code_by, coded×, coded_ℕ, coded_list}
use Rattle.txn_store.specs.Paths.{Segments}
use Rattle.txn_store.specs.declared.store.ObjectMeta.{ObjectMeta}

abbrev pub meta_code : Coded ObjectMeta
meta_code =
    code_by (Segments × (ℕ × ℕ)) (coded× (coded_list (coded_list coded_ℕ)) (coded× coded_ℕ coded_ℕ))
    (λ m. (m.location, (m.size, m.token))) (λ p. record { location = p.0; size = p.1.0; token = p.1.1 }) (λ _. refl)

abbrev pub metas_code : Coded (List ObjectMeta)
metas_code = coded_list meta_code
