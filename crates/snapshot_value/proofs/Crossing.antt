-- What is handed to threads: a basis may be read by several, and a closure crosses where each of six things that it holds does
use Rattle.std.proofs.Common.{[], ◌∷◌}
use denote.Hole.{as_row}
use denote.Struct.Field.{Field}
use denote.Param.SendFields.{FieldsHave, declared_send, as_row_send}
use denote.Param.Send.{IsSend, IsSync, sendable}
use Rattle.std.proofs.Crossing.{crosses}
use denote.Ref.{NamedLft}
use Rattle.policy_value.proofs.cache.ColumnCache.TheSendSync as cache
use Rattle.policy_value.specs.contracts.cache.ColumnCache as cache_row
use Rattle.policy_value.specs.contracts.worth.Measure as measure
use Rattle.basis_book.specs.contracts.basis.Basis as basis
use Rattle.snapshot_value.specs.contracts.worker.Worker as worker

pub basis_crosses : IsSync basis.the_row
basis_crosses = search (sendable, crosses) depth 40 fits 50000

pub six_sync : (A B C D E F : Field) → IsSync (as_row A) → IsSync (as_row B) → IsSync (as_row C) → IsSync (as_row D) → IsSync (as_row E) → IsSync (as_row F)
    → FieldsHave IsSync (A ∷ B ∷ C ∷ D ∷ E ∷ F ∷ [])
six_sync A B C D E F a b c d e f = (a, (b, (c, (d, (e, (f, tt))))))

pub six_send : (A B C D E F : Field) → IsSend (as_row A) → IsSend (as_row B) → IsSend (as_row C) → IsSend (as_row D) → IsSend (as_row E) → IsSend (as_row F)
    → FieldsHave IsSend (A ∷ B ∷ C ∷ D ∷ E ∷ F ∷ [])
six_send A B C D E F a b c d e f = (a, (b, (c, (d, (e, (f, tt))))))

pub measure_crosses : IsSend measure.the_row
measure_crosses = search (sendable, crosses) depth 40 fits 50000

pub cache_crosses : IsSend cache_row.the_row
cache_crosses = cache.the_send

pub four_send : (A B C D : Field) → IsSend (as_row A) → IsSend (as_row B) → IsSend (as_row C) → IsSend (as_row D) → FieldsHave IsSend (A ∷ B ∷ C ∷ D ∷ [])
four_send A B C D a b c d = (a, (b, (c, (d, tt))))

pub worker_crosses : (lent : NamedLft) → IsSend (worker.the_row lent)
worker_crosses lent = search (four_send, measure_crosses, basis_crosses, cache_crosses, declared_send, as_row_send, sendable, crosses) depth 20 fits 50000
