-- What new protocols and empty stores stand for.
use Rattle.std.proofs.Common.{◌≡◌, ℕ, ◌^◌, ◌<◌, List, [], Some, None, Result, Ok, Err, IfOk, refl, sym, ap, subst, ◌∙◌, arith}
use Rattle.std.specs.Prelude.{codes}
use Rattle.std.specs.FinMap as map
use Rattle.txn_store.specs.Paths.{Segments, path_cmp}
use Rattle.txn_store.specs.Store.{State}
use Rattle.txn_store.specs.Memory.{fresh_memory, state_of}
use Rattle.txn_store.specs.VersionName.{version_path}
use Rattle.txn_store.specs.declared.path.PathFault.{PathFault}
use Rattle.txn_store.specs.types.BoundaryText.{boundary_path}
use Rattle.txn_store.specs.types.NumberBytes.{number_of}
use Rattle.txn_store.specs.declared.types.layout.Layout.{Layout}
use Rattle.txn_store.specs.declared.types.test_utils.NumberCodec.{NumberCodec}
use Rattle.txn_steps_driven.specs.Standing.{FilesStand, FileSays, BoundaryFits, BoundaryStands, WindowFits}
use Rattle.slatedb_txn_obj.specs.Whole.{Protocol, StandsFor}
use Rattle.slatedb_txn_obj.specs.declared.object_store.boundary.ObjectStoreBoundaryObject.{ObjectStoreBoundaryObject}
use Rattle.slatedb_txn_obj_uses.specs.Objects.{object_names, ObjectStands, IsNew}

abbrev NumberProtocol : Type 0
NumberProtocol = Protocol NumberCodec ObjectStoreBoundaryObject

pub is_new : (root : Segments) (codec : NumberCodec) (result : Result NumberProtocol PathFault)
    → IfOk result (λ p. p.layout ≡ record { names = object_names root; boundary = boundary_path root (codes "object"); codec = codec; page = 1000 })
    → IfOk result (λ p. p.latest ≡ []) → IfOk result (λ p. (p.boundary.path ≡ boundary_path root (codes "object")) × (p.boundary.cached ≡ None))
    → IfOk result (λ p. (n : ℕ) → n < 2 ^ 64 → version_path p.layout.names n ≡ p.boundary.path → ⊥) → IfOk result (IsNew root)
is_new root codec (Ok p) layout latest boundary apart =
    record { names_are = ap (λ (l : Layout NumberCodec). l.names) layout; none_held = latest; boundary_is = boundary.0; none_cached = boundary.1; apart = apart }
is_new root codec (Err fault) layout latest boundary apart = tt

-- a new protocol stands for what the object does
pub new_stands : (root : Segments) (p : NumberProtocol) (store : State) (h : List ℕ) (b : ℕ) → IsNew root p → ObjectStands root store h b
    → StandsFor (BoundaryStands p.boundary.path p.boundary.cached store) p.boundary.path (λ _ bytes. number_of bytes) p store.files h b
new_stands root p store h b new stands = record {
  bounded = record {
    says = subst (λ path. FileSays store.given (map.get store.files path) b) (sym new.boundary_is) stands.says;
    fits = subst (λ cached. BoundaryFits p.boundary.path store.files store.given b cached) (sym new.none_cached) tt;
  };
  apart = new.apart;
  versions = record {
    files_stand = subst (λ names. FilesStand names number_of store.files h b) (sym new.names_are) stands.files_stand;
    window_fits = subst (λ latest. WindowFits number_of h b latest) (sym new.none_held) tt;
  };
}

-- an object in an empty store stands for nothing
pub empty_stands : (root : Segments) (first : ℕ) → ObjectStands root (state_of (fresh_memory first)) [] 0
empty_stands root first = record {
  says = subst (λ file. FileSays (state_of (fresh_memory first)).given file 0) (sym (map.get-empty path_cmp (boundary_path root (codes "object")))) refl;
  files_stand = record {
    known = λ n got small is. let none : None ≡ Some got = sym (map.get-empty path_cmp (version_path (object_names root) n)) ∙ is in absurd (cc);
    stored = λ n some most. absurd (omega (arith, some, most));
    below = omega arith;
    newest = λ some. absurd (omega (arith, some));
    fits = omega arith;
  };
}
