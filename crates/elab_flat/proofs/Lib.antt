mod PortLaws
mod AboveLaws
mod FaultLaws
