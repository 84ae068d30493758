use Rattle.mrp_net.proofs.Covering.{routes_cover_customers, routes_cover_suppliers, routes_cover_sources}
use Rattle.mrp_net.proofs.laws.routes_cover_sources.Goals as goal

pub returns-clause-customers : goal.returns-clause-customers
returns-clause-customers c = routes_cover_customers

pub returns-clause-suppliers : goal.returns-clause-suppliers
returns-clause-suppliers c = routes_cover_suppliers

pub returns-clause-sources : goal.returns-clause-sources
returns-clause-sources c = routes_cover_sources
